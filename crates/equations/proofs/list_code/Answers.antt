-- `equations::list_code` meets its contract: the list is counted, and written where it fits.
-- Assumes nothing.
use mathlib.Core.Path.{refl, ap, ◌∙◌}
use mathlib.Core.List.{List}
use Prim.Native.Nat.{ℕ}
use native.Mathlib.Omega.{arith}
use borrow.Author.Rules.{rules}
use lib.ListN.{length}
use Rattle.gf2.proofs.Bits.{one_shifted}
use Rattle.flat.specs.Faults.{unless_refused, list_slice}
use Rattle.flat.proofs.Reports.{list-short, list_fits}
use Rattle.minimal_words.specs.Listed.{starts}
use Rattle.equations.proofs.Laws.{may_list, counts_small, all_listed, all_counted}
use Rattle.equations.proofs.list_code.Goals as goal

pub mark-requires : goal.mark-requires
mark-requires c =
    let checks = c.checks-basis.ensures in
    record { listable = may_list _ checks.legal _ checks.value _ (search rules); unmarked = search rules }

pub starts-places-requires : goal.starts-places-requires
starts-places-requires c =
    let checks = c.checks-basis.ensures in
    counts_small _ checks.legal _ checks.value _ _ _ c.mark.ensures.tally

pub returns-then-out-count : goal.returns-then-out-count
unfolding unless_refused
returns-then-out-count c =
    let checks = c.checks-basis.ensures in
    let one = one_shifted c.args.disk (omega arith) in
    let counted =
    all_counted _ checks.legal _ checks.value _ _ _ (omega arith) one c.parities-mask.ensures _ _ c.mark.ensures.tally c.starts-places.ensures in
    record { result_value = list-short _ _ _ counted (omega arith); out_after = refl }

pub fill-requires : goal.fill-requires
fill-requires c =
    let checks = c.checks-basis.ensures in
    let one = one_shifted c.args.disk (omega arith) in
    let listed-is = all_listed _ checks.legal _ checks.value _ _ _ (omega arith) one c.parities-mask.ensures in
    let counted =
    all_counted _ checks.legal _ checks.value _ _ _ (omega arith) one c.parities-mask.ensures _ _ c.mark.ensures.tally c.starts-places.ensures in
    record {
      marked = c.mark.ensures.marked;
      places = c.starts-places.ensures ∙ ap starts c.mark.ensures.tally;
      room = omega (arith, ap length listed-is, counted);
    }

pub returns : goal.returns
unfolding unless_refused
returns c =
    let checks = c.checks-basis.ensures in
    let one = one_shifted c.args.disk (omega arith) in
    let listed-is = all_listed _ checks.legal _ checks.value _ _ _ (omega arith) one c.parities-mask.ensures in
    let counted =
    all_counted _ checks.legal _ checks.value _ _ _ (omega arith) one c.parities-mask.ensures _ _ c.mark.ensures.tally c.starts-places.ensures in
    record {
      result_value = list_fits _ _ _ counted (omega arith);
      out_after = c.fill.ensures ∙ ap (λ (l : List ℕ). list_slice l c.args.out.now) listed-is;
    }
