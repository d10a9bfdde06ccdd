-- `strip_rows::put_strip` meets its contract: a copy is made byte by byte.
-- Assumes nothing.
use Prim.Native.Nat.{◌+◌, ◌*◌, ◌≤◌}
use lib.ListN.{get_or}
use Rattle.strip_blocks.proofs.Runs.{Run}
use Rattle.strip_rows.proofs.put_strip.Given as goal

abbrev pub invariant-loop-t : goal.invariant-loop-t
invariant-loop-t l = (l.t ≤ l.l) × Run l.initial.s l.at (λ u. get_or l.rows (u * 16 + l.j) 0) l.t l.s
