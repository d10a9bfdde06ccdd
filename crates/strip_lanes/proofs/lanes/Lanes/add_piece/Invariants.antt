-- `strip_lanes::lanes::Lanes::add_piece` meets its contract: 16 products are XORed in, place by place.
-- Assumes nothing.
use Prim.Native.Nat.{◌+◌, ◌*◌, ◌≤◌}
use lib.ListN.{get_or}
use Rattle.strip_blocks.proofs.Runs.{Run}
use Rattle.strip_products.proofs.Joined.{joined}
use Rattle.strip_lanes.proofs.lanes.Lanes.add_piece.Given as goal

abbrev pub invariant-loop-t : goal.invariant-loop-t
invariant-loop-t l = (l.t ≤ 16) × Run l.initial.block l.to (joined l.initial.block l.to (λ u. get_or l.s (l.at + u) 0 * get_or l.self-inside.lanes (l.i * 16 + u) 0)) l.t l.block
