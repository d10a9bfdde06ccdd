-- `strip_lanes::lanes::Lanes::add` meets its contract: the block is written piece by piece.
-- Assumes nothing.
use Prim.Native.Nat.{◌*◌, ◌≤◌}
use Rattle.strip_blocks.proofs.Runs.{Run}
use Rattle.strip_lanes.proofs.Spreading.{added_byte}
use Rattle.strip_lanes.proofs.lanes.Lanes.add.Given as goal

abbrev pub invariant-loop-q : goal.invariant-loop-q
invariant-loop-q l = (l.q ≤ 8) × Run l.initial.block 0 (added_byte l.initial.block l.s l.at l.self l.i) (l.q * 16) l.block
