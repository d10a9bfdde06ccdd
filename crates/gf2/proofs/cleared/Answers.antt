-- `gf2::cleared` meets its contract, by the two cases of the test.
-- Assumes nothing.
use mathlib.Core.Path.{sym, ◌∙◌}
use Rattle.gf2.specs.Within.{clear}
use Rattle.gf2.proofs.cleared.Goals as goal

pub returns-then-has : goal.returns-then-has
unfolding clear
returns-then-has c = rw (sym c.has.ensures ∙ c.if-has.true)

pub returns-else-has : goal.returns-else-has
unfolding clear
returns-else-has c = rw (sym c.has.ensures ∙ c.if-has.false)
