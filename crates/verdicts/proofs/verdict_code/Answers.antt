-- `verdicts::verdict_code` meets its contract: the tests stand in the document's order.
-- Assumes nothing.
use borrow.Author.Rules.{rules}
use Rattle.verdicts.proofs.Laws.{outside, undetermined-report}
use Rattle.verdicts.proofs.verdict_code.Goals as goal

pub returns-then-not-below : goal.returns-then-not-below
returns-then-not-below c = outside _ _ _ _ (search rules) c.below.ensures c.if-not-below.true

pub returns : goal.returns
returns c = undetermined-report _ _ _ _ (search rules) c.below.ensures c.if-not-below.false _ _ c.rows.ensures.value c.undetermined-undetermined.ensures
