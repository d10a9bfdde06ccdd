-- `strip_lanes::fill_long` meets its contract: the strip is written up to o, the data strips are as at entry.
-- Assumes nothing.
use Prim.Native.Nat.{◌-◌, ◌≤◌}
use Rattle.strip_lanes.proofs.Spreading.{Spread, StripTo}
use Rattle.strip_lanes.proofs.fill_long.Given as goal

abbrev pub invariant-loop-o : goal.invariant-loop-o
invariant-loop-o l = (l.o ≤ l.l) × Spread l.k l.j l.bits l.lanes × StripTo l.k l.l l.bits l.j l.initial.s l.o l.s

abbrev pub decreases-loop-o : goal.decreases-loop-o
decreases-loop-o l = l.l - l.o
