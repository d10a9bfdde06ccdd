-- `strip_lanes::lanes::Lanes::spread` meets its contract: the lanes are written disk after disk.
-- Assumes nothing.
use Prim.Native.Nat.{◌*◌, ◌≤◌}
use Rattle.strip_blocks.proofs.Runs.{Run}
use Rattle.strip_products.specs.Products.{Bits}
use Rattle.strip_lanes.proofs.Spreading.{lane_of}
use Rattle.strip_lanes.proofs.lanes.Lanes.spread.Given as goal

abbrev pub invariant-loop-i : goal.invariant-loop-i
invariant-loop-i l = record {
  below : l.i ≤ l.k;
  are_bits : Bits l.self-inside.lanes;
  so_far : Run l.initial.self-inside.lanes 0 (lane_of l.bits l.j) (l.i * 16) l.self-inside.lanes;
}
