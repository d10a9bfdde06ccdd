-- `strip_rows::add_byte` meets its contract: 16 products are XORed in, place by place.
-- Assumes nothing.
use Prim.Native.Nat.{◌+◌, ◌*◌, ◌≤◌}
use lib.ListN.{get_or}
use Rattle.strip_blocks.proofs.Runs.{Run}
use Rattle.strip_products.proofs.Joined.{joined}
use Rattle.strip_rows.proofs.add_byte.Given as goal

abbrev pub invariant-loop-j : goal.invariant-loop-j
invariant-loop-j l = (l.j ≤ 16) × Run l.initial.rows l.at (joined l.initial.rows l.at (λ u. l.byte * get_or l.bits (l.i * 16 + u) 0)) l.j l.rows
