-- `render::listing` meets its contract: the lister's answer says which text is written.
-- Assumes nothing.
use mathlib.Core.Path.{◌≡◌, sym, ap, ◌∙◌}
use borrow.Author.Rules.{rules}
use Prim.Native.Nat.{◌+◌}
use native.Mathlib.Omega.{arith}
use lib.ListN.{length}
use lib.Seq.{length-take-le}
use Rattle.std.specs.Prelude.{Err}
use Rattle.erasures.specs.declared.ListError.{ListError}
use Rattle.erasures.specs.Reports.{report as listed_report}
use Rattle.text.specs.Text.{refused_text}
use Rattle.render.proofs.Texts.{printed_fault, printed_short, printed_listing, few, room}
use Rattle.render.proofs.listing.Goals as goal

pub slice_bounds-listing-end : goal.slice_bounds-listing-end
slice_bounds-listing-end c =
    room _ _ c.requires.accepted c.requires.code _ _ c.in-Ok.ensures.answer_value _ c.list.ensures.out_after

pub slice_bounds-listing-end-in-Ok : goal.slice_bounds-listing-end-in-Ok
slice_bounds-listing-end-in-Ok c =
    sym (length-take-le _ _ (room _ _ c.requires.accepted c.requires.code _ _ c.in-Ok.ensures.answer_value _ c.list.ensures.out_after))

pub listing-requires : goal.listing-requires
listing-requires c =
    let found = c.in-Ok.ensures.answer_value in
    let places : length c.in-Ok.listed.vector ≡ 17 = search rules in
    let roomy = room _ _ c.requires.accepted c.requires.code _ _ found _ c.list.ensures.out_after in
    let short = few _ _ c.requires.accepted c.requires.code _ _ found in (
      omega (arith, length-take-le c.in-Ok.listed.count c.list.new.out roomy, short),
      omega (arith, length-take-le (c.m-m.result + 1) c.in-Ok.listed.vector (omega (arith, c.m-m.ensures.legal, c.m-m.ensures.value, places)), c.m-m.ensures.legal, c.m-m.ensures.value),
    )

pub returns-in-Ok-clause-value : goal.returns-in-Ok-clause-value
returns-in-Ok-clause-value c =
    let e = printed_listing _ _ c.requires.accepted c.requires.code _ _ c.in-Ok.ensures.answer_value _ c.list.ensures.out_after _ c.in-Ok.ensures.vector_value in
    rw (e, sym c.k-k.ensures.value, sym c.m-m.ensures.value) c.listing.ensures.value

pub returns-in-Ok-clause-out_after : goal.returns-in-Ok-clause-out_after
returns-in-Ok-clause-out_after c =
    let e = printed_listing _ _ c.requires.accepted c.requires.code _ _ c.in-Ok.ensures.answer_value _ c.list.ensures.out_after _ c.in-Ok.ensures.vector_value in
    rw (e, sym c.k-k.ensures.value, sym c.m-m.ensures.value) c.listing.ensures.out_after

pub returns-in-Err-Short-clause-value : goal.returns-in-Err-Short-clause-value
returns-in-Err-Short-clause-value c = rw (printed_short _ _ _ (ap (λ (e : ListError). listed_report (Err e)) (sym c.in-Err-Short.field-0-is) ∙ c.in-Err-Short.ensures.answer_value)) c.refused.ensures.value

pub returns-in-Err-Short-clause-out_after : goal.returns-in-Err-Short-clause-out_after
returns-in-Err-Short-clause-out_after c = rw (printed_short _ _ _ (ap (λ (e : ListError). listed_report (Err e)) (sym c.in-Err-Short.field-0-is) ∙ c.in-Err-Short.ensures.answer_value)) c.refused.ensures.out_after

pub returns-in-Err-Card-clause-value : goal.returns-in-Err-Card-clause-value
returns-in-Err-Card-clause-value c =
    let e = printed_fault _ _ c.in-Err-Card.fault (ap (λ (e : ListError). listed_report (Err e)) (sym c.in-Err-Card.field-0-is) ∙ c.in-Err-Card.ensures.answer_value) ∙ ap refused_text (sym c.number.ensures) in
    rw e c.refused-in-Err-Card.ensures.value

pub returns-in-Err-Card-clause-out_after : goal.returns-in-Err-Card-clause-out_after
returns-in-Err-Card-clause-out_after c =
    let e = printed_fault _ _ c.in-Err-Card.fault (ap (λ (e : ListError). listed_report (Err e)) (sym c.in-Err-Card.field-0-is) ∙ c.in-Err-Card.ensures.answer_value) ∙ ap refused_text (sym c.number.ensures) in
    rw e c.refused-in-Err-Card.ensures.out_after
