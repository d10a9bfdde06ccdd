-- `strip_lanes::lanes::splat` meets its contract: the bit is stored lane by lane.
-- Assumes nothing.
use Prim.Native.Nat.{◌≤◌}
use Rattle.strip_blocks.proofs.Runs.{Run}
use Rattle.strip_lanes.proofs.lanes.splat.Given as goal

abbrev pub invariant-loop-t : goal.invariant-loop-t
invariant-loop-t l = (l.t ≤ 16) × Run l.initial.lanes l.at (λ u. l.bit) l.t l.lanes
