-- `erasures::list` meets its contract.
-- Assumes nothing.
use mathlib.Core.Path.{◌∙◌}
use Rattle.std.proofs.lemmas.Result.{err_from_is_err_and}
use Rattle.erasures.proofs.Answered.{bad_report, bad_slice, good_report, good_vector, good_slice}
use Rattle.erasures.proofs.list.Goals as goal

pub returns-in_err-code : goal.returns-in_err-code
returns-in_err-code c =
    let p = err_from_is_err_and c.from_residual.result c.from_residual.ensures.1 in
    let value = c.in_err-code.ensures.value in
    record { answer_value = rw (p.1, p.2) (bad_report _ _ _ _ value); vector_value = rw p.1 tt; out_after = bad_slice _ _ _ _ value }

pub returns : goal.returns
returns c =
    let code = c.in_ok-code.ensures in
    let list = c.list_code.ensures in
    let answer = good_report _ _ _ _ code.code _ code.value list.answer_value in
    record {
      answer_value = answer;
      vector_value = good_vector _ _ _ _ code.code _ answer list.vector_value;
      out_after = list.out_after ∙ good_slice _ _ _ _ code.code _ answer;
    }
