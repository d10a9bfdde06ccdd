-- `erasures::list_code` meets its contract: the list is counted, and written where it fits.
-- Assumes nothing.
use mathlib.Core.Path.{refl, ap, ◌∙◌}
use mathlib.Core.List.{List}
use Prim.Native.Nat.{ℕ}
use native.Mathlib.Omega.{arith}
use borrow.Author.Rules.{rules}
use lib.ListN.{length}
use Rattle.flat.specs.Faults.{unless_refused, list_slice}
use Rattle.flat.proofs.Reports.{list-short, list_fits}
use Rattle.minimal_words.specs.Listed.{starts}
use Rattle.erasures.proofs.Laws.{may_list, all_listed, counts_small, all_counted, vector_is}
use Rattle.erasures.proofs.list_code.Goals as goal

pub mark-counts-requires : goal.mark-counts-requires
mark-counts-requires c =
    let rows = c.rows-basis.ensures in
    record { listable = may_list _ rows.legal _ rows.value _ (search rules); unmarked = search rules }

pub starts-places-requires : goal.starts-places-requires
starts-places-requires c =
    let rows = c.rows-basis.ensures in
    counts_small _ rows.legal _ rows.value _ c.mark-counts.ensures.tally

pub returns-then-out-count : goal.returns-then-out-count
unfolding unless_refused
returns-then-out-count c =
    let rows = c.rows-basis.ensures in
    let counted = all_counted _ rows.legal _ rows.value _ c.mark-counts.ensures.tally _ c.starts-places.ensures in
    record { answer_value = list-short _ _ _ counted (omega arith); vector_value = tt; out_after = refl }

pub fill-requires : goal.fill-requires
fill-requires c =
    let rows = c.rows-basis.ensures in
    let counted = all_counted _ rows.legal _ rows.value _ c.mark-counts.ensures.tally _ c.starts-places.ensures in
    let listed-is = all_listed _ rows.legal _ rows.value in
    record {
      marked = c.mark-counts.ensures.marked;
      places = c.starts-places.ensures ∙ ap starts c.mark-counts.ensures.tally;
      room = omega (arith, ap length listed-is, counted);
    }

pub returns : goal.returns
unfolding unless_refused
returns c =
    let rows = c.rows-basis.ensures in
    let tallied = c.mark-counts.ensures.tally in
    let counted = all_counted _ rows.legal _ rows.value _ tallied _ c.starts-places.ensures in
    let listed-is = all_listed _ rows.legal _ rows.value in
    record {
      answer_value = list_fits _ _ _ counted (omega arith);
      vector_value = vector_is _ rows.legal _ rows.value _ tallied _ _ (search rules) c.vector-vector.ensures;
      out_after = c.fill.ensures ∙ ap (λ (l : List ℕ). list_slice l c.args.out.now) listed-is;
    }
