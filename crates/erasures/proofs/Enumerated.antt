-- The list of minimal erasures and its vector, as the enumeration over the rows gives them.
-- Assumes nothing.
use mathlib.Core.Path.{◌≡◌, sym, ap, ◌∙◌, subst}
use mathlib.Core.List.{List, map}
use Prim.Native.Nat.{ℕ, suc, ◌+◌, ◌-◌, ◌*◌, ◌^◌, ◌≤◌, ◌<◌}
use native.Mathlib.Nat.{add_comm}
use native.Mathlib.Omega.{arith}
use lib.Dec.{eqb}
use lib.ListN.{length, get_or}
use Rattle.gf2.specs.Sets.{size}
use Rattle.gf2.specs.Span.{InSpan, select}
use Rattle.gf2.specs.Within.{within}
use Rattle.gf2.proofs.Subsets.{zero-⊆, ∖-zero}
use Rattle.gf2.proofs.Sizes.{size_lt}
use Rattle.flat.specs.Lists.{range, tabulate, filter, ordered_by}
use Rattle.flat.specs.Cards.{Code, disks}
use Rattle.flat.specs.Erasures.{erasures, places, vector}
use Rattle.flat.specs.Spans.{rows, selectors, erasures_by_word}
use Rattle.flat.proofs.Lists.{tabulate_cong}
use Rattle.flat.proofs.Rows.{rows-length, rows-indep}
use Rattle.flat.proofs.Fatal.{word_below}
use Rattle.flat.proofs.Least.{selectors_out}
use Rattle.flat.proofs.Members.{In, map_out}
use Rattle.flat.proofs.ErasuresListed.{erasures_enumerated}
use Rattle.flat.proofs.Vector.{of_size, vector-counts}
use Rattle.minimal_words.specs.Listed.{kept, entry, kept_from, entries, sizes, listed, tally}
use Rattle.flat.proofs.Filters.{filter_cong, map_cong}
use Rattle.flat.proofs.Blocks.{ordered_same, ordered-count}
use Rattle.minimal_marks.proofs.Keys.{listed-sizes, tally-sizes}
use Rattle.minimal_marks.proofs.Entries.{kept-inside, entries-small}
use Rattle.bases.proofs.Systematic.{rows_systematic}

module _ (C : Code) where
  -- every word contains the empty set, and loses nothing without it
  entries-rows : entries (rows C) 0 ≡ map (select (rows C)) (selectors (rows C))
  unfolding entries kept_from selectors entry
  entries-rows =
      map_cong (entry (rows C) 0) (select (rows C)) (kept_from (rows C) 0 1 (2 ^ length (rows C) - 1)) (λ x t. ∖-zero (select (rows C) x))
      ∙ ap (map (select (rows C)))
      (filter_cong (kept (rows C) 0) (λ x. eqb (length (within (select (rows C) x) (rows C))) 1) (range 1 (2 ^ length (rows C) - 1))
      (λ x t. sym (kept-inside (rows C) 0 x (zero-⊆ (select (rows C) x)))))

  -- an entry holds some of the code's disks
  entries_fit : (w : ℕ) → In w (entries (rows C) 0) → size w < suc (disks C)
  entries_fit w t =
      let r = map_out (select (rows C)) w (selectors (rows C)) (subst (In w) entries-rows t) in
      let m = (selectors_out (rows C) (rows-indep C) r.0 r.1).1 in
      let h = size_lt (disks C) w (word_below C w (subst (InSpan (rows C)) r.2 m.word)) in
      omega arith

  module _ (hm : C.m ≤ 16) where
    entries_below : (w : ℕ) → In w (entries (rows C) 0) → size w < sizes
    unfolding disks
    entries_below = entries-small (disks C) (rows C) 0 (rows_systematic C) (omega (arith, rows-length C))

    pub listed-erasures : listed (rows C) 0 0 ≡ erasures C
    unfolding erasures_by_word
    listed-erasures =
        listed-sizes (rows C) 0 ∙ ordered_same size (entries (rows C) 0) sizes (suc (disks C)) entries_below entries_fit
        ∙ ap (ordered_by size (suc (disks C))) entries-rows ∙ sym (erasures_enumerated C)

    -- the count of size i + 1 is the tally's
    pub vector-tally : tabulate (C.m + 1) (λ i. get_or (tally (rows C) 0 0) ((i + 1) * sizes) 0) ≡ vector C
    unfolding places
    vector-tally =
        tabulate_cong (C.m + 1) (λ i. get_or (tally (rows C) 0 0) ((i + 1) * sizes) 0) (λ i. of_size C (1 + i))
        (λ i l. tally-sizes (rows C) 0 (i + 1) (omega arith)
        ∙ sym (ordered-count size (entries (rows C) 0) (i + 1) sizes (omega arith))
        ∙ ap (λ (l : List ℕ). length (filter (λ w. eqb (size w) (i + 1)) l)) (sym (listed-sizes (rows C) 0) ∙ listed-erasures) ∙ ap (of_size C) (add_comm i 1))
        ∙ sym (vector-counts C)
