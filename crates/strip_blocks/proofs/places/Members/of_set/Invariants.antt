-- `strip_blocks::places::Members::of_set` meets its contract: the places of the disks so far, and zeros after them.
-- Assumes nothing.
use mathlib.Core.Path.{◌≡◌}
use Prim.Native.Nat.{ℕ, ◌*◌, ◌≤◌}
use lib.ListN.{get_or}
use Rattle.strip_blocks.proofs.Placed.{Placed}
use Rattle.strip_blocks.proofs.places.Members.of_set.Given as goal

abbrev pub invariant-loop-i : goal.invariant-loop-i
invariant-loop-i l =
    (l.i ≤ l.n) × Placed l.set l.n 32 (λ d. d * l.l) l.i l.at l.count × ((j : ℕ) → l.count ≤ j → get_or l.at j 0 ≡ 0)
