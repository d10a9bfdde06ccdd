-- `strip_blocks::starts_zero` meets its contract: the OR of the bytes so far is 0 where each of them is.
-- Assumes nothing.
use Prim.Native.Nat.{◌≤◌}
use lib.ListN.{get_or}
use Rattle.strip_blocks.proofs.Loops.{Any}
use Rattle.strip_blocks.proofs.starts_zero.Given as goal

abbrev pub invariant-loop-t : goal.invariant-loop-t
invariant-loop-t g l = (l.t ≤ l.count) × Any (λ j. get_or l.block j 0) l.t l.any
