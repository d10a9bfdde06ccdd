-- `rebuilder::rebuild` meets its contract.
-- Assumes nothing.
use Rattle.std.proofs.lemmas.Result.{err_from_is_err_and}
use mathlib.Core.Path.{◌∙◌}
use Rattle.rebuilder.proofs.Answered.{good_report, good_stripe, bad_report, bad_stripe}
use Rattle.rebuilder.proofs.rebuild.Goals as goal

pub returns-in_err-code : goal.returns-in_err-code
returns-in_err-code c =
    let p = err_from_is_err_and c.from_residual.result c.from_residual.ensures.1 in
    let value = c.in_err-code.ensures.value in
    record { result_value = rw (p.1, p.2) (bad_report _ _ _ _ _ _ value); stripe_after = bad_stripe _ _ _ _ _ _ value }

pub returns : goal.returns
returns c =
    let code = c.in_ok-code.ensures in
    let answer = good_report _ _ _ _ _ _ _ code.value code.code c.rebuild_code.ensures.answer in
    record { result_value = answer; stripe_after = c.rebuild_code.ensures.stripe ∙ good_stripe _ _ _ _ _ _ _ code.code answer }
