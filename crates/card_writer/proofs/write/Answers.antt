-- `card_writer::write` meets its contract: the report of the tests, and the card in the buffer where they refuse nothing.
-- Assumes nothing.
use mathlib.Core.Path.{◌∙◌}
use lib.ListN.{length}
use Rattle.card_writer.proofs.Tested as tested
use Rattle.card_writer.proofs.Laws.{buffer_refused, buffer_other, buffer_written}
use Rattle.card_writer.proofs.write.Goals as goal

pub returns-in_err-check-clause-out_after : goal.returns-in_err-check-clause-out_after
returns-in_err-check-clause-out_after c = buffer_refused _ _ _ _ _ (c.in_err-check.ensures.fault (length c.args.out.now))

pub length-requires : goal.length-requires
length-requires c = tested.counts_small _ _ _ _ _ c.in_ok-check.ensures.sound

pub returns-then-out-length : goal.returns-then-out-length
returns-then-out-length c =
    let r = tested.other_buffer _ _ _ _ _ c.in_ok-check.ensures.sound _ _ c.length.ensures c.if-out-length.true in
    record { result_value = r; out_after = buffer_other _ _ _ _ r }

pub put_card-requires : goal.put_card-requires
put_card-requires c = tested.may_put _ _ _ _ _ c.in_ok-check.ensures.sound _ _ c.length.ensures c.if-out-length.false

pub returns : goal.returns
returns c =
    let r = tested.all_right _ _ _ _ _ c.in_ok-check.ensures.sound _ _ c.length.ensures c.if-out-length.false in
    record { result_value = r; out_after = c.put_card.ensures ∙ buffer_written _ _ _ _ r }
