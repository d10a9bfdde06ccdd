-- `strip_streams::vanishes_from` meets its contract: the OR of the bytes so far is 0 where each of them is.
-- Assumes nothing.
use Rattle.strip_blocks.proofs.Loops.{any_none, any-more}
use borrow.Author.Rules.{rules}
use Rattle.strip_streams.proofs.vanishes_from.Goals as goal

pub loop-t-init : goal.loop-t-init
loop-t-init g c = (search rules, any_none _)

pub loop-t-preserved : goal.loop-t-preserved
loop-t-preserved g c = (search rules, any-more _ _ _ _ c.loop-t.invariant.1 c.byte-any.ensures)
