-- `strip_rows::fill` meets its contract: the strips of the parity disks so far are made.
-- Assumes nothing.
use Prim.Native.Nat.{◌≤◌}
use Rattle.strip_products.proofs.Made.{StripsTo}
use Rattle.strip_rows.proofs.fill.Given as goal

abbrev pub invariant-loop-j : goal.invariant-loop-j
invariant-loop-j l = (l.j ≤ l.m) × StripsTo l.k l.l l.bits l.initial.s l.j l.s
