-- `strip_updates::add_each` meets its contract: the block is XORed into the strips of the list so far.
-- Assumes nothing.
use Rattle.strip_updates.proofs.Adding.{added_none, added_more, added-all}
use borrow.Author.Rules.{rules}
use Rattle.strip_updates.proofs.add_each.Goals as goal

pub loop-place-init : goal.loop-place-init
loop-place-init c = (search rules, added_none _ _ _ _)

pub loop-place-preserved : goal.loop-place-preserved
loop-place-preserved c =
    let lp = c.loop-place in
    (search rules, added_more _ _ _ _ lp.place-index _ _ (c.requires lp.place-index (search rules)) lp.invariant.1 c.add.ensures)

pub returns : goal.returns
returns c = added-all _ _ _ _ _ _ _ c.loop-place.invariant.1 (search rules)
