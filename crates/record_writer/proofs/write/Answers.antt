-- `record_writer::write` meets its contract: what is refused leaves the output as it was, and what is accepted is put.
-- Assumes nothing.
use mathlib.Core.Path.{sym, ◌∙◌}
use Rattle.card.proofs.Laws.{fault_refuses}
use Rattle.record_writer.proofs.WriterAnswers.{bad_report, output-kept, good_report, record_fits, output_written}
use Rattle.record_writer.proofs.write.Goals as goal

pub returns-in_err-code-clause-out_after : goal.returns-in_err-code-clause-out_after
returns-in_err-code-clause-out_after c =
    let a = c.args in
    output-kept a.card.now a.l a.lost a.stripe.now a.out.now _ (bad_report a.card.now a.l a.lost a.stripe.now a.out.now _ c.in_err-code.ensures.value)
    (fault_refuses _)

pub put_record-requires : goal.put_record-requires
put_record-requires c =
    let a = c.args in
    let k = c.in_ok-code.ensures in
    record_fits a.card.now a.l a.lost a.stripe.now a.out.now _ k.value k.code _ c.record_length-answer.ensures
    (sym c.accepts.ensures ∙ c.if-accepts.true) _ c.n.ensures.value

pub returns-then-accepts-clause-out_after : goal.returns-then-accepts-clause-out_after
returns-then-accepts-clause-out_after c =
    let a = c.args in
    let k = c.in_ok-code.ensures in
    c.put_record.ensures
    ∙ output_written a.card.now a.l a.lost a.stripe.now a.out.now _ k.value k.code _ c.record_length-answer.ensures
    (sym c.accepts.ensures ∙ c.if-accepts.true) _ c.n.ensures.value

pub returns-else-accepts-clause-out_after : goal.returns-else-accepts-clause-out_after
returns-else-accepts-clause-out_after c =
    let a = c.args in
    let k = c.in_ok-code.ensures in
    output-kept a.card.now a.l a.lost a.stripe.now a.out.now _
    (c.record_length-answer.ensures ∙ sym (good_report a.card.now a.l a.lost a.stripe.now a.out.now _ k.value k.code))
    (sym c.accepts.ensures ∙ c.if-accepts.false)
