-- `strip_steady::gathered::lanes_of` meets its contract: the lanes of the parity disks so far are there.
-- Assumes nothing.
use Prim.Native.Nat.{◌≤◌}
use Rattle.strip_steady.proofs.Offsets.{Tabled}
use Rattle.strip_steady.proofs.gathered.lanes_of.Given as goal

abbrev pub invariant-loop-j : goal.invariant-loop-j
invariant-loop-j l = (l.j ≤ l.m) × Tabled l.k l.bits l.j l.lanes
