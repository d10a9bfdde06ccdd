-- `tray::repair` meets its contract: what is refused leaves the tray, and what is accepted is repaired.
-- Assumes nothing.
use mathlib.Core.Path.{refl}
use Rattle.tray.proofs.Answered.{kept_bad_card, kept_refused, now_left, now_joined}
use Rattle.tray.proofs.repair.Goals as goal

pub returns-in_err-code-clause-tray_after : goal.returns-in_err-code-clause-tray_after
returns-in_err-code-clause-tray_after c = kept_bad_card _ _ _ _ _ _ _ c.in_err-code.ensures.value

pub returns-in_err-tests-clause-tray_after : goal.returns-in_err-tests-clause-tray_after
returns-in_err-tests-clause-tray_after c =
    let code = c.in_ok-code.ensures in
    kept_refused _ _ _ _ _ _ _ code.value code.code _ (c.in_err-tests.ensures.refused _ _ refl)

pub returns-clause-left_value : goal.returns-clause-left_value
returns-clause-left_value c =
    let code = c.in_ok-code.ensures in
    now_left _ _ _ _ _ _ _ code.value code.code _ (c.in_ok-tests.ensures.accepted _ _ refl) _ c.peel_each.ensures.left

pub returns-clause-tray_after : goal.returns-clause-tray_after
returns-clause-tray_after c =
    let code = c.in_ok-code.ensures in
    now_joined _ _ _ _ _ _ _ code.value code.code _ (c.in_ok-tests.ensures.accepted _ _ refl) _ c.peel_each.ensures.tray
