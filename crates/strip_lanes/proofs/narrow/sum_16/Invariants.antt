-- `strip_lanes::narrow::sum_16` meets its contract: the strips go in one after the other, each times its bit.
-- Assumes nothing.
use Prim.Native.Nat.{◌+◌, ◌≤◌}
use Rattle.strip_blocks.proofs.Runs.{Run}
use Rattle.strip_products.specs.Products.{parity_byte}
use Rattle.strip_lanes.proofs.narrow.sum_16.Given as goal

abbrev pub invariant-loop-i : goal.invariant-loop-i
invariant-loop-i l = (l.i ≤ l.k) × Run l.initial.sums l.to (λ t. parity_byte l.i l.l l.bits l.s l.j (l.o + t)) 16 l.sums
