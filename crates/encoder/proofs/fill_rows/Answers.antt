-- `encoder::fill_rows` meets its contract: row i is stored out of the card.
-- Assumes nothing.
use native.Mathlib.Nat.{le_refl}
use Rattle.encoder.proofs.Laws.{stored_none, stored_more}
use Rattle.encoder.proofs.fill_rows.Goals as goal

pub loop-i-init : goal.loop-i-init
loop-i-init c = stored_none _ _

pub loop-i-preserved : goal.loop-i-preserved
loop-i-preserved c = stored_more _ _ _ _ _ c.loop-i.invariant (le_refl _) c.k-i-end.ensures.legal.3 c.row.ensures.row c.row.ensures.kept
