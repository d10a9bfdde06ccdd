-- `strip_dense::gather` meets its contract: the blocks of the disks so far are gathered.
-- Assumes nothing.
use Prim.Native.Nat.{◌≤◌}
use Rattle.strip_dense.proofs.Patched.{Gathered}
use Rattle.strip_dense.proofs.gather.Given as goal

abbrev pub invariant-loop-i : goal.invariant-loop-i
invariant-loop-i l = (l.i ≤ l.n) × Gathered l.s l.l l.o l.i l.local
