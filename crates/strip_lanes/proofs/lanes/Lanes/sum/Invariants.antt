-- `strip_lanes::lanes::Lanes::sum` meets its contract: the strips go in one after the other, each times its lanes.
-- Assumes nothing.
use Prim.Native.Nat.{◌≤◌}
use Rattle.strip_blocks.proofs.Summed.{Summed}
use Rattle.strip_lanes.proofs.Spreading.{lane_sum}
use Rattle.strip_lanes.proofs.lanes.Lanes.sum.Given as goal

abbrev pub invariant-loop-i : goal.invariant-loop-i
invariant-loop-i l = (l.i ≤ l.k) × Summed 128 (lane_sum l.s l.l l.self l.o) l.i l.block
