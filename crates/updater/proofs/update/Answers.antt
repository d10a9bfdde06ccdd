-- `updater::update` meets its contract: what is refused leaves the stripe, and what is accepted is updated.
-- Assumes nothing.
use Rattle.updater.proofs.Stripes.{kept_bad_card, kept_refused, now_updated}
use Rattle.updater.proofs.update.Goals as goal

pub returns-in_err-code-clause-stripe_after : goal.returns-in_err-code-clause-stripe_after
returns-in_err-code-clause-stripe_after c = kept_bad_card _ _ _ _ _ _ _ c.in_err-code.ensures.value

pub returns-in_err-tests-clause-stripe_after : goal.returns-in_err-tests-clause-stripe_after
returns-in_err-tests-clause-stripe_after c =
    let code = c.in_ok-code.ensures in
    kept_refused _ _ _ _ _ _ _ code.value code.code _ c.in_err-tests.ensures.refused

pub returns-clause-stripe_after : goal.returns-clause-stripe_after
returns-clause-stripe_after c =
    let code = c.in_ok-code.ensures in
    let tests = c.in_ok-tests.ensures in
    now_updated _ _ _ _ _ _ _ code.value code.code _ _ tests.accepted tests.lengths.3 c.rewrite-count.ensures.stripe_after
