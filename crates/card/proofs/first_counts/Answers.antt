-- `card::first_counts` meets its contract: at each way out the report is that of the card's tests.
-- Assumes nothing.
use mathlib.Core.Path.{sym, ◌∙◌}
use native.Mathlib.Omega.{arith}
use Rattle.card.proofs.Places.{start_small, parity-read}
use Rattle.card.proofs.Tested as tested
use Rattle.card.proofs.first_counts.Goals as goal

pub overflow_add-at : goal.overflow_add-at
overflow_add-at c = omega (arith, c.start-at.ensures, start_small c.args.edition)

pub returns-then-card-at-clause-fault : goal.returns-then-card-at-clause-fault
returns-then-card-at-clause-fault c = tested.short-card _ _ _ c.start-at.ensures c.if-card-at.true

pub returns-then-not-first_byte_ok-clause-fault : goal.returns-then-not-first_byte_ok-clause-fault
returns-then-not-first_byte_ok-clause-fault c =
    tested.other_first_byte _ _ (tested.both-counts _ _ _ c.start-at.ensures c.if-card-at.false) (sym c.first_byte_ok.ensures ∙ c.if-not-first_byte_ok.true)

pub returns-then-not-count_ok-clause-fault : goal.returns-then-not-count_ok-clause-fault
returns-then-not-count_ok-clause-fault c =
    let at = c.start-at.ensures in
    tested.bad_data _ _ (tested.both-counts _ _ _ at c.if-card-at.false) (sym c.first_byte_ok.ensures ∙ c.if-not-first_byte_ok.false) _ _
    (tested.data-read _ _ _ at) (parity-read _ _ _ at) (sym c.count_ok.ensures ∙ c.if-not-count_ok.true)

pub returns-then-not-count_ok-2-clause-fault : goal.returns-then-not-count_ok-2-clause-fault
returns-then-not-count_ok-2-clause-fault c =
    let at = c.start-at.ensures in
    tested.bad_parity _ _ (tested.both-counts _ _ _ at c.if-card-at.false) (sym c.first_byte_ok.ensures ∙ c.if-not-first_byte_ok.false) _ _
    (tested.data-read _ _ _ at) (parity-read _ _ _ at) (sym c.count_ok.ensures ∙ c.if-not-count_ok.false) (sym c.count_ok-2.ensures ∙ c.if-not-count_ok-2.true)
