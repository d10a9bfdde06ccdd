-- check meets its contract: the report at each way out. Assumes nothing.
use native.Mathlib.Omega.{arith}
use Rattle.std.proofs.lemmas.Result.{err_from_is_err_and}
use Rattle.flat.proofs.Cards.{count_in}
use Rattle.stepped_card.proofs.Laws.{known, report_data, report-parity, report_distance, report_bounds, report_buffer, report-done}
use Rattle.stepped_card.proofs.check.Goals as goal

pub returns-then-not-count_ok : goal.returns-then-not-count_ok
returns-then-not-count_ok c = report_data _ _ _ _ (known c.count_ok.ensures c.if-not-count_ok.true)

pub returns-then-not-count_ok-2 : goal.returns-then-not-count_ok-2
returns-then-not-count_ok-2 c =
    report-parity _ _ _ _ (known c.count_ok.ensures c.if-not-count_ok.false) (known c.count_ok-2.ensures c.if-not-count_ok-2.true)

pub returns-in_err-distance : goal.returns-in_err-distance
returns-in_err-distance c =
    let p = err_from_is_err_and c.from_residual.result c.from_residual.ensures.1 in
    rw (p.1, p.2)
    (report_distance _ _ _ _ (known c.count_ok.ensures c.if-not-count_ok.false) (known c.count_ok-2.ensures c.if-not-count_ok-2.false)
    c.in_err-distance.ensures)

pub within_bounds-requires : goal.within_bounds-requires
within_bounds-requires c = (
  (count_in _ (known c.count_ok-2.ensures c.if-not-count_ok-2.false)).1,
  (count_in _ (known c.count_ok.ensures c.if-not-count_ok.false)).1,
)

pub returns-then-not-within_bounds : goal.returns-then-not-within_bounds
returns-then-not-within_bounds c =
    report_bounds _ _ _ _ (known c.count_ok.ensures c.if-not-count_ok.false) (known c.count_ok-2.ensures c.if-not-count_ok-2.false)
    _ c.in_ok-distance.ensures (known c.within_bounds.ensures c.if-not-within_bounds.true)

pub overflow_mul-m : goal.overflow_mul-m
overflow_mul-m c = let m = count_in _ (known c.count_ok-2.ensures c.if-not-count_ok-2.false) in omega arith

pub overflow_add-m : goal.overflow_add-m
overflow_add-m c = let m = count_in _ (known c.count_ok-2.ensures c.if-not-count_ok-2.false) in omega arith

pub returns-then-n-m : goal.returns-then-n-m
returns-then-n-m c =
    report_buffer _ _ _ _ (known c.count_ok.ensures c.if-not-count_ok.false) (known c.count_ok-2.ensures c.if-not-count_ok-2.false)
    _ c.in_ok-distance.ensures (known c.within_bounds.ensures c.if-not-within_bounds.false) c.if-n-m.true

pub returns : goal.returns
returns c = (
  c.in_ok-distance.ensures,
  report-done _ _ _ _ (known c.count_ok.ensures c.if-not-count_ok.false) (known c.count_ok-2.ensures c.if-not-count_ok-2.false)
      _ c.in_ok-distance.ensures (known c.within_bounds.ensures c.if-not-within_bounds.false) c.if-n-m.false,
)
