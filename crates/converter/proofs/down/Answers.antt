-- `converter::down` meets its contract: the card that was read, written in the other edition, where each wear is 1.
-- Assumes nothing.
use mathlib.Core.Path.{sym, ◌∙◌}
use native.Mathlib.Omega.{arith}
use Rattle.std.proofs.lemmas.Result.{err_from_is_err_and}
use Rattle.converter.proofs.Answered as answered
use Rattle.converter.proofs.down.Goals as goal

pub returns-in_err-read-clause-result_value : goal.returns-in_err-read-clause-result_value
returns-in_err-read-clause-result_value c =
    let p = err_from_is_err_and c.from_residual.result c.from_residual.ensures.1 in
    rw (p.1, p.2) (answered.bad_down _ _ _ c.in_err-read.ensures.fault)

pub returns-in_err-read-clause-out_after : goal.returns-in_err-read-clause-out_after
returns-in_err-read-clause-out_after c = answered.bad_down_kept _ _ _ c.in_err-read.ensures.fault

pub length-requires : goal.length-requires
length-requires c = answered.counts_small _ _ _ _ c.in_ok-read.ensures.counts

pub returns-then-out-length-clause-result_value : goal.returns-then-out-length-clause-result_value
returns-then-out-length-clause-result_value c = answered.other_down _ _ _ c.in_ok-read.ensures.counts _ c.length.ensures _ c.if-out-length.true

pub returns-then-out-length-clause-out_after : goal.returns-then-out-length-clause-out_after
returns-then-out-length-clause-out_after c = answered.other_down_kept _ _ _ c.in_ok-read.ensures.counts _ c.length.ensures _ c.if-out-length.true

pub shared_ref_as_front-columns : goal.shared_ref_as_front-columns
shared_ref_as_front-columns c = (answered.counts_small _ _ _ _ c.in_ok-read.ensures.counts).1

pub overflow_add-read : goal.overflow_add-read
overflow_add-read c = let h = answered.counts_small _ _ _ _ c.in_ok-read.ensures.counts in record { fits = omega (arith, h.0, h.1) }

pub shared_ref_as_front-all_one : goal.shared_ref_as_front-all_one
shared_ref_as_front-all_one c = let h = answered.counts_small _ _ _ _ c.in_ok-read.ensures.counts in omega (arith, h.0, h.1)

pub returns-then-not-all_one-clause-result_value : goal.returns-then-not-all_one-clause-result_value
returns-then-not-all_one-clause-result_value c =
    let read = c.in_ok-read.ensures in
    answered.lossy_down _ _ _ read.counts _ c.length.ensures _ c.if-out-length.false _ read.wears (sym c.all_one.ensures ∙ c.if-not-all_one.true)

pub returns-then-not-all_one-clause-out_after : goal.returns-then-not-all_one-clause-out_after
returns-then-not-all_one-clause-out_after c =
    let read = c.in_ok-read.ensures in
    answered.lossy_down_kept _ _ _ read.counts _ c.length.ensures _ c.if-out-length.false _ read.wears (sym c.all_one.ensures ∙ c.if-not-all_one.true)

pub returns-clause-result_value : goal.returns-clause-result_value
returns-clause-result_value c =
    let read = c.in_ok-read.ensures in
    answered.done_down _ _ _ read.counts _ c.length.ensures _ c.if-out-length.false _ read.wears (sym c.all_one.ensures ∙ c.if-not-all_one.false)

pub returns-clause-out_after : goal.returns-clause-out_after
returns-clause-out_after c =
    let read = c.in_ok-read.ensures in
    answered.written_down _ _ _ read.counts _ c.length.ensures _ c.if-out-length.false _ read.wears (sym c.all_one.ensures ∙ c.if-not-all_one.false) _ _
    read.columns c.write.ensures.out_after
