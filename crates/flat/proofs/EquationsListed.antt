-- The list of a disk's equations: its members, its order, that these two tell it, and the enumeration by sets of parities that it equals.
-- Every equation contains a listed one.
-- Assumes nothing.
use mathlib.Core.Path.{◌≡◌, sym, ap, ◌∙◌, subst}
use mathlib.Core.Logic.{◌↔◌}
use mathlib.Core.List.{List, map}
use Prim.Native.Nat.{ℕ, suc, ◌+◌, ◌/◌, ◌^◌, ◌≤◌, ◌<◌}
use native.Mathlib.Nat.{add_comm, lt_of_not-le, not-le_of_lt}
use native.Mathlib.Omega.{arith}
use lib.Dec.{T}
use lib.ListN.{length, get_or}
use lib.Pow.{shr_lt, shr_mono}
use Rattle.gf2.specs.Sets.{has, size, ◌⊕◌, ◌∖◌, ◌⊆◌}
use Rattle.gf2.specs.Span.{select, Minimal}
use Rattle.gf2.proofs.Bits.{bit_shift, ext_below}
use Rattle.gf2.proofs.Subsets.{less-add, plus-has, plus-back}
use Rattle.gf2.proofs.Sizes.{size_lt}
use Rattle.flat.specs.Lists.{range, filter, ordered_by}
use Rattle.flat.specs.Cards.{Code, disks}
use Rattle.flat.specs.Equations.{equation, minimal_equation, parity_disks, by_size_and_parities, equations, Precedes}
use Rattle.flat.specs.Spans.{checks, selectors, equations_by_parities}
use Rattle.flat.proofs.Rows.{checks_span, checks-indep, checks-length, select-checks_lt, select-parity, zero_selects}
use Rattle.flat.proofs.CheckWords.{equation-least, less_lt, no_disk, minimal-word, word-minimal}
use Rattle.flat.proofs.Members.{In, range_in, range_out, filter_in, filter_out, map_in, map_out, ordered_in, ordered_out}
use Rattle.flat.proofs.Counts.{count_le}
use Rattle.flat.proofs.Totals.{ordered-whole}
use Rattle.flat.proofs.Order.{Sorted, Lex, sorted_from, sorted_range, sorted_filter, sorted_map, sorted_ordered, sorted_unique, lex_asym, lt_asym}
use Rattle.flat.proofs.Least.{least-inside, selectors_in, selectors_out, selectors_sorted}

-- ---- the order

module _ (C : Code) where
  -- both keys are below their bounds
  ranked_in : (E : ℕ) (Es : List ℕ) → E < 2 ^ disks C → In E Es → In E (by_size_and_parities C Es)
  unfolding by_size_and_parities parity_disks
  ranked_in E Es l t =
      let h : size E ≤ disks C = size_lt (disks C) E l in
      let p : parity_disks C E ≤ C.m = count_le C.m (λ j. has E (C.k + j)) in
      ordered_in size (suc (disks C)) E (ordered_by (parity_disks C) (suc C.m) Es) (omega arith)
      (ordered_in (parity_disks C) (suc C.m) E Es (omega arith) t)

  ranked_out : (E : ℕ) (Es : List ℕ) → In E (by_size_and_parities C Es) → In E Es
  unfolding by_size_and_parities
  ranked_out E Es t =
      (ordered_out (parity_disks C) (suc C.m) E Es (ordered_out size (suc (disks C)) E (ordered_by (parity_disks C) (suc C.m) Es) t).1).1

  ranked_whole : (Es : List ℕ) → ((E : ℕ) → In E Es → E < 2 ^ disks C) → length (by_size_and_parities C Es) ≡ length Es
  unfolding by_size_and_parities parity_disks
  ranked_whole Es h =
      ordered-whole size (suc (disks C)) (ordered_by (parity_disks C) (suc C.m) Es)
      (λ E t. let l = size_lt (disks C) E (h E (ordered_out (parity_disks C) (suc C.m) E Es t).1) in omega arith)
      ∙ ordered-whole (parity_disks C) (suc C.m) Es (λ E t. let l = count_le C.m (λ j. has E (C.k + j)) in omega arith)

  ranked_sorted : (Es : List ℕ) → Sorted (λ E F. E < F) Es → Sorted (Precedes C) (by_size_and_parities C Es)
  unfolding by_size_and_parities
  ranked_sorted Es s =
      sorted_ordered (Lex (parity_disks C) (λ E F. E < F)) size (ordered_by (parity_disks C) (suc C.m) Es)
      (sorted_ordered (λ E F. E < F) (parity_disks C) Es s (suc C.m)) (suc (disks C))

  -- lists in this order with the same members are equal
  ranked_only : (xs ys : List ℕ) → Sorted (Precedes C) xs → Sorted (Precedes C) ys → ((E : ℕ) → In E xs → In E ys)
      → ((E : ℕ) → In E ys → In E xs) → xs ≡ ys
  ranked_only =
      sorted_unique (Precedes C)
      (lex_asym size (Lex (parity_disks C) (λ E F. E < F)) (lex_asym (parity_disks C) (λ E F. E < F) lt_asym))

-- ---- the list

module _ (C : Code) (d : ℕ) where
  abbrev every_set : List ℕ
  every_set = range 0 (2 ^ disks C)

  pub equations_in : (E : ℕ) → E < 2 ^ disks C → T (minimal_equation C d E) → In E (equations C d)
  unfolding equations
  equations_in E l t =
      ranked_in C E (filter (minimal_equation C d) every_set) l
      (filter_in (minimal_equation C d) E every_set t (range_in 0 (2 ^ disks C) E (omega arith) (omega arith)))

  pub equations_out : (E : ℕ) → In E (equations C d) → (E < 2 ^ disks C) × T (minimal_equation C d E)
  unfolding equations
  equations_out E t =
      let c = filter_out (minimal_equation C d) E every_set (ranked_out C E (filter (minimal_equation C d) every_set) t) in
      let r = range_out 0 (2 ^ disks C) E c.1 in
      (omega arith, c.0)

  pub equations_sorted : Sorted (Precedes C) (equations C d)
  unfolding equations
  equations_sorted =
      ranked_sorted C (filter (minimal_equation C d) every_set)
      (sorted_filter (λ E F. E < F) (minimal_equation C d) every_set (sorted_range 0 (2 ^ disks C)))

  pub equations-counted : length (equations C d) ≡ length (filter (minimal_equation C d) every_set)
  unfolding equations
  equations-counted =
      ranked_whole C (filter (minimal_equation C d) every_set)
      (λ E t. let r = range_out 0 (2 ^ disks C) E (filter_out (minimal_equation C d) E every_set t).1 in omega arith)

  pub equations-only : (list : List ℕ) → ((E : ℕ) → In E list ↔ ((E < 2 ^ disks C) × T (minimal_equation C d E)))
      → ((i j : ℕ) → i < j → j < length list → Precedes C (get_or list i 0) (get_or list j 0)) → list ≡ equations C d
  equations-only list exact ordered =
      ranked_only C list (equations C d) (sorted_from (Precedes C) list ordered) equations_sorted
      (λ E t. let r = (exact E).0 t in equations_in E r.0 r.1) (λ E t. (exact E).1 (equations_out E t))

  pub equation-listed : (E : ℕ) → E < 2 ^ disks C → T (equation C d E) → (F : ℕ) × In F (equations C d) × T (F ⊆ E)
  equation-listed E l t =
      let r = least-inside (disks C) (equation C d) (suc E) E (omega arith) l t in
      (r.0, equations_in r.0 r.1 ((equation-least C d r.0).1 r.3), r.2)

-- ---- one candidate for each set of parities

module _ (C : Code) where
  part_lt : (w : ℕ) → w < 2 ^ disks C → w / 2 ^ C.k < 2 ^ C.m
  unfolding disks
  part_lt w l = shr_lt C.m C.k (subst (λ (n : ℕ). w < 2 ^ n) (add_comm C.k C.m) l)

  -- what p selects of the checks has parity part p, so a larger p selects a larger number
  select_part : (p : ℕ) → p < 2 ^ C.m → select (checks C) p / 2 ^ C.k ≡ p
  select_part p l =
      ext_below C.m (select (checks C) p / 2 ^ C.k) p (part_lt (select (checks C) p) (select-checks_lt C p)) l
      (λ j m. bit_shift C.k (select (checks C) p) j ∙ select-parity C p j m)

  select_grows : (p q : ℕ) → p < 2 ^ C.m → q < 2 ^ C.m → p < q → select (checks C) p < select (checks C) q
  select_grows p q l m h =
      lt_of_not-le
      (λ g. not-le_of_lt h (subst (λ (x : ℕ). x ≤ p) (select_part q m) (subst (λ (x : ℕ). select (checks C) q / 2 ^ C.k ≤ x) (select_part p l) (shr_mono C.k g))))

module _ (C : Code) (d : ℕ) (l : d < disks C) where
  word : ℕ → ℕ
  word p = select (checks C) p

  chosen : List ℕ
  chosen = filter (λ p. has (word p) d) (selectors (checks C))

  by_parities : List ℕ
  by_parities = map (λ p. word p ∖ 2 ^ d) chosen

  chosen_out : (p : ℕ) → In p chosen → (p < 2 ^ C.m) × Minimal (checks C) (word p) × T (has (word p) d)
  unfolding chosen word
  chosen_out p t =
      let a = filter_out (λ q. has (word q) d) p (selectors (checks C)) t in
      let b = selectors_out (checks C) (checks-indep C) p a.1 in
      (subst (λ (n : ℕ). p < 2 ^ n) (checks-length C) b.0, b.1, a.0)

  -- without the disk the numbers differ by the same power of two
  less_grows : (p q : ℕ) → In p chosen → In q chosen → p < q → word p ∖ 2 ^ d < word q ∖ 2 ^ d
  unfolding word
  less_grows p q t u h =
      let a = chosen_out p t in
      let b = chosen_out q u in
      let g : word p < word q = select_grows C p q a.0 b.0 h in
      omega (arith, less-add (word p) d a.2, less-add (word q) d b.2)

  pub equations_enumerated : equations C d ≡ equations_by_parities C d
  unfolding equations_by_parities by_parities chosen word
  equations_enumerated =
      ranked_only C (equations C d) (by_size_and_parities C by_parities) (equations_sorted C d)
      (ranked_sorted C by_parities
      (sorted_map (λ p q. p < q) (λ E F. E < F) (λ p. word p ∖ 2 ^ d) chosen less_grows
      (sorted_filter (λ p q. p < q) (λ p. has (word p) d) (selectors (checks C)) (selectors_sorted (checks C)))))
      to from
    where
      to : (E : ℕ) → In E (equations C d) → In E (by_size_and_parities C by_parities)
      to E t =
          let a = equations_out C d E t in
          let w = E ⊕ 2 ^ d in
          let m = minimal-word C d l E a.0 a.1 in
          let z = (checks_span C w).0 m.word in
          let p = w / 2 ^ C.k in
          let e : select (checks C) p ≡ w = zero_selects C w z in
          let f = no_disk C d l E ((equation-least C d E).0 a.1).holds in
          ranked_in C E by_parities a.0
          (subst (λ (x : ℕ). In x by_parities) (ap (λ (x : ℕ). x ∖ 2 ^ d) e ∙ plus-back E d f)
          (map_in (λ q. word q ∖ 2 ^ d) p chosen
          (filter_in (λ q. has (word q) d) p (selectors (checks C)) (subst (λ (x : ℕ). T (has x d)) (sym e) (plus-has E d f))
          (selectors_in (checks C) (checks-indep C) p (subst (λ (n : ℕ). p < 2 ^ n) (sym (checks-length C)) (part_lt C w z.0)) (subst (Minimal (checks C)) (sym e) m)))))

      from : (E : ℕ) → In E (by_size_and_parities C by_parities) → In E (equations C d)
      from E t =
          let r = map_out (λ q. word q ∖ 2 ^ d) E chosen (ranked_out C E by_parities t) in
          let b = chosen_out r.0 r.1 in
          subst (λ (x : ℕ). In x (equations C d)) r.2
          (equations_in C d (word r.0 ∖ 2 ^ d) (less_lt C d l (word r.0) b.1.word) (word-minimal C d l (word r.0) b.1 b.2))
