-- The equations of a disk, as the enumeration over the checks gives them.
-- Assumes nothing.
use mathlib.Core.Path.{◌≡◌, sym, ap, ap₂, ◌∙◌, subst}
use mathlib.Core.Bool.{Bool, ◌&&◌, and-true}
use mathlib.Core.List.{List, map}
use Prim.Native.Nat.{ℕ, suc, ◌+◌, ◌-◌, ◌^◌, ◌≤◌, ◌<◌}
use native.Mathlib.Omega.{arith}
use borrow.Author.Tests.{le-leb}
use lib.Dec.{eqb, leb}
use lib.ListN.{length}
use Rattle.gf2.specs.Sets.{has, size, ◌∩◌, ◌∖◌, ◌⊆◌}
use Rattle.gf2.specs.Span.{select}
use Rattle.gf2.specs.Within.{within}
use Rattle.gf2.proofs.Tests.{T-ext, and_out, leb_out}
use Rattle.gf2.proofs.Subsets.{⊆_out, power_in, power_⊆}
use Rattle.gf2.proofs.Sizes.{size_lt, size_split}
use Rattle.gf2.proofs.Sums.{select_in}
use Rattle.flat.specs.Lists.{range, filter, ordered_by}
use Rattle.flat.specs.Cards.{Code, disks}
use Rattle.flat.specs.Equations.{parity_disks, by_size_and_parities, equations}
use Rattle.flat.specs.Spans.{checks, selectors, equations_by_parities}
use Rattle.flat.proofs.Rows.{checks-length}
use Rattle.flat.proofs.CheckWords.{less_lt}
use Rattle.flat.proofs.Counts.{count_le, count-append, count_cong, count_none, size-those}
use Rattle.flat.proofs.Members.{In, map_out, ordered_out}
use Rattle.flat.proofs.EquationsListed.{equations_enumerated}
use Rattle.minimal_words.specs.Listed.{kept, entry, kept_from, entries, sizes, listed}
use Rattle.flat.proofs.Filters.{filter_cong, filter-both}
use Rattle.flat.proofs.Blocks.{ordered_same, ordered_cong}
use Rattle.minimal_marks.proofs.Keys.{listed-keys}
use Rattle.minimal_marks.proofs.Entries.{entries-small}
use Rattle.bases.proofs.Systematic.{checks_systematic}
use Rattle.equations.specs.Parities.{parities}

-- the parity disks as a set
abbrev pub mask : Code → ℕ
mask C = parities C.k C.m

-- how many of them a set holds
parities-held : (C : Code) (E : ℕ) → size (E ∩ mask C) ≡ parity_disks C E
unfolding parity_disks
parities-held C E =
    let z : 0 + parity_disks C E ≡ parity_disks C E = omega arith in
    size-those (C.k + C.m) E (leb C.k) ∙ count-append C.k C.m (λ i. has E i && leb C.k i)
    ∙ ap₂ ◌+◌
    (count_none C.k (λ i. has E i && leb C.k i) (λ i l t. let h = leb_out C.k i (and_out (has E i) (leb C.k i) t).1 in omega arith))
    (count_cong C.m (λ j. has E (C.k + j) && leb C.k (C.k + j)) (λ j. has E (C.k + j))
    (λ j l. ap (λ (b : Bool). has E (C.k + j) && b) (le-leb C.k (C.k + j) (omega arith)) ∙ and-true (has E (C.k + j))))
    ∙ z

module _ (C : Code) (d : ℕ) where
  -- the set of one disk lies in a word that holds it
  holds : (w : ℕ) → (2 ^ d ⊆ w) ≡ has w d
  holds w = T-ext (λ t. ⊆_out (2 ^ d) w t d (power_in d)) (power_⊆ d w)

  -- the entries: the minimal check words that hold the disk, without it
  entries-checks : entries (checks C) (2 ^ d) ≡ map (λ p. select (checks C) p ∖ 2 ^ d) (filter (λ p. has (select (checks C) p) d) (selectors (checks C)))
  unfolding entries kept_from selectors entry kept
  entries-checks =
      let one : ℕ → Bool = λ x. eqb (length (within (select (checks C) x) (checks C))) 1 in
      let all = range 1 (2 ^ length (checks C) - 1) in
      ap (map (λ p. select (checks C) p ∖ 2 ^ d))
      (filter_cong (λ x. one x && (2 ^ d ⊆ select (checks C) x)) (λ x. one x && has (select (checks C) x) d) all
      (λ x t. ap (λ (b : Bool). one x && b) (holds (select (checks C) x)))
      ∙ filter-both one (λ x. has (select (checks C) x) d) all)

  module _ (l : d < disks C) (hk : C.k ≤ 16) where
    -- an entry holds some of the code's disks
    entries_fit : (w : ℕ) → In w (entries (checks C) (2 ^ d)) → size w < suc (disks C)
    unfolding entries entry
    entries_fit w t =
        let r = map_out (entry (checks C) (2 ^ d)) w (kept_from (checks C) (2 ^ d) 1 (2 ^ length (checks C) - 1)) t in
        let h = size_lt (disks C) w (subst (λ (x : ℕ). x < 2 ^ disks C) r.2 (less_lt C d l (select (checks C) r.0) (select_in (checks C) r.0))) in
        omega arith

    entries_below : (w : ℕ) → In w (entries (checks C) (2 ^ d)) → size w < sizes
    unfolding disks
    entries_below = entries-small (disks C) (checks C) (2 ^ d) (checks_systematic C) (omega (arith, checks-length C))

    -- so it holds fewer parity disks than there are sizes
    masked_below : (w : ℕ) → In w (entries (checks C) (2 ^ d)) → size (w ∩ mask C) < sizes
    masked_below w t = omega (arith, size_split w (mask C), entries_below w t)

    abbrev by_parities : List ℕ
    by_parities = ordered_by (parity_disks C) (suc C.m) (entries (checks C) (2 ^ d))

    second_key : ordered_by (λ w. size (w ∩ mask C)) sizes (entries (checks C) (2 ^ d)) ≡ by_parities
    unfolding parity_disks
    second_key =
        ordered_cong (λ w. size (w ∩ mask C)) (parity_disks C) (entries (checks C) (2 ^ d)) (λ w t. parities-held C w) sizes
        ∙ ordered_same (parity_disks C) (entries (checks C) (2 ^ d)) sizes (suc C.m)
        (λ w t. omega (arith, parities-held C w, masked_below w t))
        (λ w t. omega (arith, count_le C.m (λ j. has w (C.k + j))))

    first_key : ordered_by size sizes by_parities ≡ by_size_and_parities C (entries (checks C) (2 ^ d))
    unfolding by_size_and_parities
    first_key =
        let member : (w : ℕ) → In w by_parities → In w (entries (checks C) (2 ^ d)) =
        λ w t. (ordered_out (parity_disks C) (suc C.m) w (entries (checks C) (2 ^ d)) t).1 in
        ordered_same size by_parities sizes (suc (disks C)) (λ w t. entries_below w (member w t)) (λ w t. entries_fit w (member w t))

    pub listed-equations : listed (checks C) (2 ^ d) (mask C) ≡ equations C d
    unfolding equations_by_parities
    listed-equations =
        listed-keys (checks C) (2 ^ d) (mask C) masked_below ∙ ap (ordered_by size sizes) second_key ∙ first_key
        ∙ ap (by_size_and_parities C) entries-checks ∙ sym (equations_enumerated C d l)
