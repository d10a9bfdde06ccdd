-- `card::check` meets its contract: at each way out the report is that of the card's tests.
-- Assumes nothing.
use mathlib.Core.Path.{sym, ◌∙◌}
use native.Mathlib.Omega.{arith}
use Rattle.card.proofs.Tested as tested
use Rattle.card.proofs.Checked.{none_found, columns_are, checked}
use Rattle.card.proofs.check.Goals as goal

pub length-requires : goal.length-requires
length-requires c = tested.counts_small _ _ _ _ c.in_ok-k.ensures.counted

pub returns-then-card-length-clause-value : goal.returns-then-card-length-clause-value
returns-then-card-length-clause-value c = tested.bad_length _ _ _ _ c.in_ok-k.ensures.counted _ c.length.ensures c.if-card-length.true

pub columns-columns-requires : goal.columns-columns-requires
columns-columns-requires c = tested.is_whole _ _ _ _ c.in_ok-k.ensures.counted _ c.length.ensures c.if-card-length.false

pub first_bad_in-requires : goal.first_bad_in-requires
first_bad_in-requires c =
    let t = c.in_ok-k.ensures.counted in
    ((tested.counts_small _ _ _ _ t).0, tested.columns-long _ _ _ _ t _ c.length.ensures c.if-card-length.false _ c.columns-columns.ensures)

pub returns-in-Some-clause-value : goal.returns-in-Some-clause-value
returns-in-Some-clause-value c =
    let f = c.in-Some.ensures in
    tested.bad_column _ _ _ _ c.in_ok-k.ensures.counted _ c.length.ensures c.if-card-length.false _ _ c.columns-columns.ensures f.value f.bound

pub held-requires : goal.held-requires
held-requires c = tested.is_whole _ _ _ _ c.in_ok-k.ensures.counted _ c.length.ensures c.if-card-length.false

pub returns-then-has_zero-clause-value : goal.returns-then-has_zero-clause-value
returns-then-has_zero-clause-value c =
    tested.zero_wear _ _ _ _ c.in_ok-k.ensures.counted _ c.length.ensures c.if-card-length.false _ _ c.columns-columns.ensures
    (none_found _ _ _ c.in_default.not-Some c.first_bad_in.ensures.value) (omega arith) _ c.held.ensures
    (sym c.if-has_zero.true ∙ c.has_zero.ensures)

pub new-requires : goal.new-requires
new-requires c =
    columns_are _ _ _ _ c.in_ok-k.ensures.counted _ c.length.ensures c.if-card-length.false _ c.columns-columns.ensures
    (none_found _ _ _ c.in_default.not-Some c.first_bad_in.ensures.value) _ c.held.ensures
    (sym c.if-has_zero.false ∙ c.has_zero.ensures)

pub returns : goal.returns
returns c =
    let g = checked _ _ _ _ c.in_ok-k.ensures.counted _ c.length.ensures c.if-card-length.false _ c.columns-columns.ensures
    (none_found _ _ _ c.in_default.not-Some c.first_bad_in.ensures.value) _ c.held.ensures
    (sym c.if-has_zero.false ∙ c.has_zero.ensures) _ c.new.ensures in
    record { value = sym g.found; code = sym g.is; legal = g.legal; worn = g.worn }
