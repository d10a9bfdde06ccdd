-- `strip_updates::add_each` meets its contract: the block is XORed into the strips of the list so far.
-- Assumes nothing.
use Prim.Native.Nat.{◌≤◌}
use lib.ListN.{length}
use Rattle.strip_updates.proofs.Adding.{Added}
use Rattle.strip_updates.proofs.add_each.Given as goal

abbrev pub invariant-loop-place : goal.invariant-loop-place
invariant-loop-place l = (l.place-index ≤ length l.places) × Added l.places l.o l.change l.initial.s l.place-index l.s
