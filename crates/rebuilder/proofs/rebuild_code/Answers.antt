-- `rebuilder::rebuild_code` meets its contract: the tests first, and what is refused is left as it was.
-- Assumes nothing.
use mathlib.Core.Path.{sym, ◌∙◌}
use Rattle.std.proofs.lemmas.Result.{err_from_is_err_and}
use Rattle.flat.proofs.Tested.{passed_length, passed-set}
use Rattle.restorer.proofs.Callers.{all_passed}
use Rattle.rebuilder.proofs.Answered.{tests_report, stripe_kept}
use Rattle.rebuilder.proofs.rebuild_code.Goals as goal

pub returns-in_err-tested : goal.returns-in_err-tested
returns-in_err-tested c =
    let p = err_from_is_err_and c.from_residual.result c.from_residual.ensures.1 in
    let told = c.in_err-tested.ensures c.args.code.now _ (sym c.n.ensures.value) in
    record { answer = rw (p.1, p.2) (tests_report _ _ _ _ _ told); stripe = rw (p.1, p.2) (stripe_kept _ _ _) }

pub restore-requires : goal.restore-requires
restore-requires c =
    let p = all_passed c.args.code.now _ _ _ (λ next. c.in_ok-tested.ensures _ next (sym c.n.ensures.value)) in
    record { set = passed-set p; sizes = ((passed_length p).0, (passed_length p).1, p.size) }

pub returns : goal.returns
returns c =
    let told = c.in_ok-tested.ensures c.args.code.now _ (sym c.n.ensures.value) in
    record { answer = c.restore.ensures.answer ∙ tests_report _ _ _ _ _ told; stripe = c.restore.ensures.stripe }
