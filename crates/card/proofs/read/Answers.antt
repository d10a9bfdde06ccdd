-- `card::read` meets its contract: the columns and the wears are those that the report's card has.
-- Assumes nothing.
use mathlib.Core.Path.{sym, ◌∙◌}
use Rattle.flat.proofs.RoundTrip.{wears-read}
use Rattle.card.proofs.Callers.{columns_given}
use Rattle.card.proofs.read.Goals as goal

pub returns-clause-columns : goal.returns-clause-columns
returns-clause-columns c = let e = c.in_ok-code.ensures in columns_given _ _ _ e.value e.code _ c.columns.ensures.value

pub returns-clause-wears : goal.returns-clause-wears
returns-clause-wears c = let e = c.in_ok-code.ensures in c.wears.ensures ∙ sym (wears-read _ _ _ (sym e.value))
