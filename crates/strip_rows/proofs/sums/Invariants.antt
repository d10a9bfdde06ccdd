-- `strip_rows::sums` meets its contract: the parity bytes from the disks so far.
-- Assumes nothing.
use Prim.Native.Nat.{◌≤◌}
use Rattle.strip_rows.proofs.Rows.{Summed}
use Rattle.strip_rows.proofs.sums.Given as goal

abbrev pub invariant-loop-i : goal.invariant-loop-i
invariant-loop-i l = (l.i ≤ l.k) × Summed l.s l.l l.bits l.i l.rows
