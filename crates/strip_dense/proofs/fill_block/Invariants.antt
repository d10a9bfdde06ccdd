-- `strip_dense::fill_block` meets its contract: the blocks of the targets below d are filled.
-- Assumes nothing.
use Prim.Native.Nat.{◌≤◌}
use lib.ListN.{get_or}
use Rattle.strip_dense.proofs.Patched.{Blocks}
use Rattle.strip_dense.proofs.fill_block.Given as goal

abbrev pub invariant-loop-d : goal.invariant-loop-d
invariant-loop-d l = (l.d ≤ l.n) × Blocks l.n l.l (λ i. get_or l.sets i 0) l.targets l.initial.s l.local l.o l.d l.s
