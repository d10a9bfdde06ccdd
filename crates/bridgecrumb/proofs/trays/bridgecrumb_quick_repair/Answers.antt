-- `bridgecrumb::trays::bridgecrumb_quick_repair` meets its contract: what is left of the sets is written where the tray is. Assumes nothing.
use mathlib.Core.Path.{sym}
use Rattle.bridgecrumb.proofs.Arrays.{taken, tray_kept}
use Rattle.bridgecrumb.proofs.trays.bridgecrumb_quick_repair.Goals as goal

pub returns-in-Ok-clause-left_after : goal.returns-in-Ok-clause-left_after
returns-in-Ok-clause-left_after c = rw (sym c.edition.ensures) (taken _ _ _ _ _ c.in-Ok.ensures.answer_value c.in-Ok.ensures.left_value)

pub returns-in-Err-clause-left_after : goal.returns-in-Err-clause-left_after
returns-in-Err-clause-left_after c = rw (sym c.edition.ensures) (tray_kept _ _ _ c.in-Err.error c.in-Err.ensures.answer_value)
