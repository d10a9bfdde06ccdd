-- `encoder::fill_whole_rows` meets its contract: row i is stored out of the array of the columns.
-- Assumes nothing.
use mathlib.Core.Path.{◌∙◌}
use native.Mathlib.Nat.{le_refl}
use native.Mathlib.Omega.{arith}
use Rattle.encoder.proofs.Laws.{stored_none, stored_more, array_bit}
use Rattle.encoder.proofs.fill_whole_rows.Goals as goal

pub loop-i-init : goal.loop-i-init
loop-i-init c = stored_none _ _

pub loop-i-preserved : goal.loop-i-preserved
loop-i-preserved c =
    let columns = c.columns-columns.ensures in
    stored_more _ _ 16 _ _ c.loop-i.invariant columns.legal.3 (le_refl 16)
    (λ j h. c.whole_row.ensures.row j (omega (arith, columns.legal.3)) ∙ array_bit _ _ _ j columns.value) c.whole_row.ensures.kept
