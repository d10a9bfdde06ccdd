-- `bridgecrumb::cards::bridgecrumb_card_read` meets its contract: counts, columns and wears are written where the card is accepted. Assumes nothing.
use mathlib.Core.Path.{sym}
use Rattle.bridgecrumb.proofs.Arrays.{no_code, values_taken, read_taken, card_code, card_kept}
use Rattle.bridgecrumb.proofs.cards.bridgecrumb_card_read.Goals as goal

pub returns-in-Ok-clause-value : goal.returns-in-Ok-clause-value
returns-in-Ok-clause-value c = rw (sym c.edition.ensures) (no_code _ _ c.in-Ok.ensures.counts)

pub returns-in-Ok-clause-counts_after : goal.returns-in-Ok-clause-counts_after
returns-in-Ok-clause-counts_after c = rw (sym c.edition.ensures) (values_taken _ _ _ c.in-Ok.ensures.counts)

pub returns-in-Ok-clause-columns_after : goal.returns-in-Ok-clause-columns_after
returns-in-Ok-clause-columns_after c = rw (sym c.edition.ensures) (read_taken _ _ _ _ _ c.in-Ok.ensures.counts c.in-Ok.ensures.columns)

pub returns-in-Ok-clause-wears_after : goal.returns-in-Ok-clause-wears_after
returns-in-Ok-clause-wears_after c = rw (sym c.edition.ensures) (read_taken _ _ _ _ _ c.in-Ok.ensures.counts c.in-Ok.ensures.wears)

pub returns-in-Err-clause-value : goal.returns-in-Err-clause-value
returns-in-Err-clause-value c = rw (sym c.edition.ensures) (card_code _ _ c.in-Err.fault c.in-Err.ensures.fault c.fault_code.ensures)

pub returns-in-Err-clause-counts_after : goal.returns-in-Err-clause-counts_after
returns-in-Err-clause-counts_after c = rw (sym c.edition.ensures) (card_kept _ _ _ c.in-Err.fault c.in-Err.ensures.fault)

pub returns-in-Err-clause-columns_after : goal.returns-in-Err-clause-columns_after
returns-in-Err-clause-columns_after c = rw (sym c.edition.ensures) (card_kept _ _ _ c.in-Err.fault c.in-Err.ensures.fault)

pub returns-in-Err-clause-wears_after : goal.returns-in-Err-clause-wears_after
returns-in-Err-clause-wears_after c = rw (sym c.edition.ensures) (card_kept _ _ _ c.in-Err.fault c.in-Err.ensures.fault)
