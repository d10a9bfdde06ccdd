-- sets meets its contract. Assumes nothing.
use mathlib.Core.Path.{ap, ◌∙◌}
use Prim.Native.Nat.{ℕ}
use native.Mathlib.Omega.{arith}
use Rattle.flat.proofs.Lists.{fill_none, fill_more}
use Rattle.stepped_codes.specs.Stepped.{parity_set}
use Rattle.stepped_sets.specs.Distances.{number_of}
use Rattle.stepped_sets.proofs.sets.Goals as goal

pub loop-i-init : goal.loop-i-init
loop-i-init c = fill_none 16 _

pub loop-i-preserved : goal.loop-i-preserved
loop-i-preserved c =
    let l = c.loop-i in
    fill_more 16 l.i _ _ _ (omega arith) l.invariant (c.parity_set.ensures ∙ ap (λ (m : ℕ). parity_set (number_of c.args.distance) m l.i) c.binomials.ensures)
