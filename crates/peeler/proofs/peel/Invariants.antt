-- `peeler::peel` meets its contract: what is still to be peeled, with the steps made, is the whole.
-- Assumes nothing.
use mathlib.Core.Path.{◌≡◌}
use Prim.Native.Nat.{◌*◌, ◌≤◌}
use lib.ListN.{length}
use Rattle.flat.specs.Cards.{disks}
use Rattle.peeling.specs.Peeling.{peeled}
use Rattle.peeler.proofs.Stepping.{Going}
use Rattle.peeler.proofs.peel.Given as goal

abbrev pub invariant-loop-steps : goal.invariant-loop-steps
invariant-loop-steps l =
    (l.steps ≤ l.budget) × (length l.stripe ≡ disks l.code * l.l)
    × Going l.code l.l l.budget (peeled l.code l.l l.budget l.lost l.initial.stripe) l.steps l.left l.stripe
