-- `render::render` meets its contract: the text of a refused card is its fault's.
-- Assumes nothing.
use mathlib.Core.Path.{sym, ap, ◌∙◌}
use Rattle.flat.specs.declared.Edition.TheVariants.{First}
use Rattle.erasures.proofs.Answered.{bad_report, bad_slice}
use Rattle.text.specs.Text.{refused_text}
use Rattle.render.proofs.Texts.{printed_fault}
use Rattle.render.proofs.render.Goals as goal

pub returns-in-Err-clause-value : goal.returns-in-Err-clause-value
returns-in-Err-clause-value c =
    let e = printed_fault _ _ c.in-Err.fault (bad_report First c.args.card.now c.args.entries.now _ c.in-Err.ensures.value) ∙ ap refused_text (sym c.number.ensures) in
    rw e c.refused.ensures.value

pub returns-in-Err-clause-out_after : goal.returns-in-Err-clause-out_after
returns-in-Err-clause-out_after c =
    let e = printed_fault _ _ c.in-Err.fault (bad_report First c.args.card.now c.args.entries.now _ c.in-Err.ensures.value) ∙ ap refused_text (sym c.number.ensures) in
    rw e c.refused.ensures.out_after

pub returns-in-Err-clause-entries_after : goal.returns-in-Err-clause-entries_after
returns-in-Err-clause-entries_after c = bad_slice First c.args.card.now c.args.entries.now _ c.in-Err.ensures.value
