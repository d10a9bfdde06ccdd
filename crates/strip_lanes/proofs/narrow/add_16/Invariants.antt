-- `strip_lanes::narrow::add_16` meets its contract: 16 products are XORed in, place by place.
-- Assumes nothing.
use Prim.Native.Nat.{◌+◌, ◌*◌, ◌≤◌}
use lib.ListN.{get_or}
use Rattle.strip_blocks.proofs.Runs.{Run}
use Rattle.strip_products.proofs.Joined.{joined}
use Rattle.strip_lanes.proofs.narrow.add_16.Given as goal

abbrev pub invariant-loop-t : goal.invariant-loop-t
invariant-loop-t l = (l.t ≤ 16) × Run l.initial.sums l.to (joined l.initial.sums l.to (λ u. get_or l.s (l.at + u) 0 * l.bit)) l.t l.sums
