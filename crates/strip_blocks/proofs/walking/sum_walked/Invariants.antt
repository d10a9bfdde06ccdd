-- `strip_blocks::walking::sum_walked` meets its contract: the block is the XOR of the strips that have gone by.
-- Assumes nothing.
use Prim.Native.Nat.{◌^◌, ◌<◌}
use Rattle.strip_blocks.proofs.Summed.{Summed}
use Rattle.strip_blocks.proofs.Walked.{gone_byte}
use Rattle.strip_blocks.proofs.walking.sum_walked.Given as goal

abbrev pub invariant-loop-left : goal.invariant-loop-left
invariant-loop-left g l = (l.left < 2 ^ l.n) × (l.left < 2 ^ 32) × Summed g.row.W (gone_byte l.s l.l l.n l.set l.o) l.left l.block

abbrev pub decreases-loop-left : goal.decreases-loop-left
decreases-loop-left g l = l.left
