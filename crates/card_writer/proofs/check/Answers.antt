-- `card_writer::check` meets its contract: at each way out the report is that of the tests.
-- Assumes nothing.
use mathlib.Core.Path.{sym, ◌∙◌}
use native.Mathlib.Omega.{arith}
use Rattle.card.proofs.Checked.{none_found}
use Rattle.card_writer.proofs.Tested as tested
use Rattle.card_writer.proofs.check.Goals as goal

pub returns-then-not-count_ok-clause-fault : goal.returns-then-not-count_ok-clause-fault
returns-then-not-count_ok-clause-fault c = tested.bad_data _ _ _ _ _ (sym c.count_ok.ensures ∙ c.if-not-count_ok.true)

pub returns-then-not-count_ok-2-clause-fault : goal.returns-then-not-count_ok-2-clause-fault
returns-then-not-count_ok-2-clause-fault c =
    tested.bad_parity _ _ _ _ _ (sym c.count_ok.ensures ∙ c.if-not-count_ok.false) (sym c.count_ok-2.ensures ∙ c.if-not-count_ok-2.true)

pub returns-then-columns-m-clause-fault : goal.returns-then-columns-m-clause-fault
returns-then-columns-m-clause-fault c =
    tested.other_columns _ _ _ _ _ (sym c.count_ok.ensures ∙ c.if-not-count_ok.false) (sym c.count_ok-2.ensures ∙ c.if-not-count_ok-2.false)
    c.if-columns-m.true

pub overflow_add-k : goal.overflow_add-k
overflow_add-k c =
    let a = c.args in
    omega (
      arith,
      tested.few_disks a.edition a.k a.m a.columns.now a.wears.now (sym c.count_ok.ensures ∙ c.if-not-count_ok.false)
          (sym c.count_ok-2.ensures ∙ c.if-not-count_ok-2.false),
    )

pub returns-then-wears-wear_count-clause-fault : goal.returns-then-wears-wear_count-clause-fault
returns-then-wears-wear_count-clause-fault c =
    tested.other_wears _ _ _ _ _ (sym c.count_ok.ensures ∙ c.if-not-count_ok.false) (sym c.count_ok-2.ensures ∙ c.if-not-count_ok-2.false)
    c.if-columns-m.false _ c.wear_count.ensures c.if-wears-wear_count.true

pub first_bad-requires : goal.first_bad-requires
first_bad-requires c =
    let a = c.args in
    (tested.few_disks a.edition a.k a.m a.columns.now a.wears.now (sym c.count_ok.ensures ∙ c.if-not-count_ok.false)
    (sym c.count_ok-2.ensures ∙ c.if-not-count_ok-2.false)).0

pub returns-in-Some-clause-fault : goal.returns-in-Some-clause-fault
returns-in-Some-clause-fault c =
    tested.bad_column _ _ _ _ _ (sym c.count_ok.ensures ∙ c.if-not-count_ok.false) (sym c.count_ok-2.ensures ∙ c.if-not-count_ok-2.false)
    c.if-columns-m.false _ c.wear_count.ensures c.if-wears-wear_count.false _ c.in-Some.ensures.value c.in-Some.ensures.bound

pub returns-then-has_zero-clause-fault : goal.returns-then-has_zero-clause-fault
returns-then-has_zero-clause-fault c =
    tested.zero_wear _ _ _ _ _ (sym c.count_ok.ensures ∙ c.if-not-count_ok.false) (sym c.count_ok-2.ensures ∙ c.if-not-count_ok-2.false)
    c.if-columns-m.false _ c.wear_count.ensures c.if-wears-wear_count.false
    (none_found _ _ _ c.in_default.not-Some c.first_bad.ensures.value) (sym c.if-has_zero.true ∙ c.has_zero.ensures)

pub returns-clause-sound : goal.returns-clause-sound
returns-clause-sound c =
    tested.sound _ _ _ _ _ (sym c.count_ok.ensures ∙ c.if-not-count_ok.false) (sym c.count_ok-2.ensures ∙ c.if-not-count_ok-2.false)
    c.if-columns-m.false _ c.wear_count.ensures c.if-wears-wear_count.false
    (none_found _ _ _ c.in_default.not-Some c.first_bad.ensures.value) (sym c.if-has_zero.false ∙ c.has_zero.ensures)
