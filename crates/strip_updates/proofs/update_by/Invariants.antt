-- `strip_updates::update_by` meets its contract: after the last block, those below o are rewritten too.
-- Assumes nothing.
use mathlib.Core.Path.{◌≡◌}
use Prim.Native.Nat.{◌-◌, ◌≤◌}
use lib.ListN.{length}
use Rattle.strip_updates.specs.Changes.{from, changed}
use Rattle.strip_updates.proofs.update_by.Given as goal

abbrev pub invariant-loop-o : goal.invariant-loop-o
invariant-loop-o g l = record {
  below : l.o ≤ l.l;
  long : length l.s ≡ length l.initial.s;
  done : l.s ≡ changed (from 0 l.o) l.q l.places (length l.places) l.new l.initial.s;
}

abbrev pub decreases-loop-o : goal.decreases-loop-o
decreases-loop-o g l = l.l - l.o
