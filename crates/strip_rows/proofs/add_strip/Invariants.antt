-- `strip_rows::add_strip` meets its contract: the bytes so far have gone into their rows.
-- Assumes nothing.
use Prim.Native.Nat.{◌*◌, ◌≤◌}
use Rattle.strip_blocks.proofs.Runs.{Run}
use Rattle.strip_rows.proofs.Rows.{added_place}
use Rattle.strip_rows.proofs.add_strip.Given as goal

abbrev pub invariant-loop-t : goal.invariant-loop-t
invariant-loop-t l = (l.t ≤ l.l) × Run l.initial.rows 0 (added_place l.initial.rows l.s l.at l.bits (l.i * 16)) (l.t * 16) l.rows
