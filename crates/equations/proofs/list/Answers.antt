-- `equations::list` meets its contract.
-- Assumes nothing.
use mathlib.Core.Path.{◌∙◌}
use native.Mathlib.Omega.{arith}
use Rattle.std.proofs.lemmas.Result.{err_from_is_err_and}
use Rattle.equations.proofs.Answered.{bad_report, bad_slice, outside-report, outside_slice, good_report, good_slice}
use Rattle.equations.proofs.list.Goals as goal

pub returns-in_err-code : goal.returns-in_err-code
returns-in_err-code c =
    let p = err_from_is_err_and c.from_residual.result c.from_residual.ensures.1 in
    let value = c.in_err-code.ensures.value in
    record { result_value = rw (p.1, p.2) (bad_report _ _ _ _ _ value); out_after = bad_slice _ _ _ _ _ value }

pub returns-then-n-disk : goal.returns-then-n-disk
returns-then-n-disk c =
    let code = c.in_ok-code.ensures in
    record {
      result_value = outside-report _ _ _ _ _ code.value code.code (omega arith);
      out_after = outside_slice _ _ _ _ _ code.value code.code (omega arith);
    }

pub returns : goal.returns
returns c =
    let code = c.in_ok-code.ensures in
    let list = c.list_code.ensures in
    let answer = good_report _ _ _ _ _ code.value code.code (omega arith) _ list.result_value in
    record { result_value = answer; out_after = list.out_after ∙ good_slice _ _ _ _ _ code.value code.code _ answer }
