-- `encoder::encode` meets its contract: what is refused leaves the stripe, and what is accepted is encoded.
-- Assumes nothing.
use Rattle.encoder.proofs.Stripes.{kept_bad_card, kept_refused, now_encoded}
use Rattle.encoder.proofs.encode.Goals as goal

pub returns-in_err-code-clause-stripe_after : goal.returns-in_err-code-clause-stripe_after
returns-in_err-code-clause-stripe_after c = kept_bad_card _ _ _ _ _ c.in_err-code.ensures.value

pub returns-in_err-tests-clause-stripe_after : goal.returns-in_err-tests-clause-stripe_after
returns-in_err-tests-clause-stripe_after c =
    let code = c.in_ok-code.ensures in
    kept_refused _ _ _ _ _ code.value code.code _ c.in_err-tests.ensures.value

pub returns-clause-stripe_after : goal.returns-clause-stripe_after
returns-clause-stripe_after c =
    let code = c.in_ok-code.ensures in
    now_encoded _ _ _ _ _ code.value code.code _ c.in_ok-tests.ensures.value c.encode_code.ensures
