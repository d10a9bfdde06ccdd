-- `equations::parities` meets its contract. Assumes nothing.
use native.Mathlib.Omega.{arith}
use borrow.Author.Rules.{rules}
use Rattle.flat.specs.Cards.{disks}
use Rattle.equations.proofs.Laws.{parities_are}
use Rattle.equations.proofs.parities.Goals as goal

pub survivors-requires : goal.survivors-requires
unfolding disks
survivors-requires c = omega arith

pub returns : goal.returns
unfolding disks
returns c = parities_are _ _ _ _ _ c.survivors.ensures (search rules) (omega arith)
