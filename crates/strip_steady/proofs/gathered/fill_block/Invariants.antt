-- `strip_steady::gathered::fill_block` meets its contract: the blocks of the parity disks so far are put.
-- Assumes nothing.
use Prim.Native.Nat.{◌≤◌}
use Rattle.strip_steady.proofs.Offsets.{BlocksTo}
use Rattle.strip_steady.proofs.gathered.fill_block.Given as goal

abbrev pub invariant-loop-j : goal.invariant-loop-j
invariant-loop-j l = (l.j ≤ l.m) × BlocksTo l.k l.l l.local l.lanes l.o l.initial.s l.j l.s
