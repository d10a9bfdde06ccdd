-- `strip_vanishing::vanishes_narrow` meets its contract: the block holds the whole strip.
-- Assumes nothing.
use mathlib.Core.Path.{◌∙◌}
use Rattle.strip_vanishing.proofs.Vanishing.{vanished_in}
use borrow.Author.Rules.{rules}
use Rattle.strip_vanishing.proofs.vanishes_narrow.Goals as goal

pub returns : goal.returns
returns c = c.starts_zero.ensures ∙ vanished_in _ _ _ _ 16 _ (search rules) c.suited_sum.ensures
