-- The list of minimal erasures: its members, its order, and the enumeration by data word that it equals. Every fatal set contains a
-- listed one.
-- Assumes nothing.
use mathlib.Core.Path.{◌≡◌, sym, ap, ◌∙◌, subst}
use mathlib.Core.Logic.{inl, inr, ◌↔◌}
use mathlib.Core.List.{List, map}
use Prim.Native.Nat.{ℕ, suc, ◌^◌, ◌≤◌, ◌<◌}
use native.Mathlib.Nat.{mod-lt, lt_irrefl}
use native.Mathlib.Omega.{arith}
use lib.Dec.{T}
use lib.Pow.{pow_pos}
use Rattle.gf2.specs.Sets.{size, ◌⊆◌}
use Rattle.gf2.specs.Span.{select, Minimal}
use Rattle.gf2.proofs.Subsets.{⊆-refl, ⊆_trans}
use Rattle.gf2.proofs.Sizes.{size_lt}
use Rattle.flat.specs.Lists.{range, filter, ordered_by}
use Rattle.flat.specs.Cards.{Code, disks, data_part}
use Rattle.flat.specs.Erasures.{fatal, minimal_erasure, erasures}
use Rattle.flat.specs.Spans.{codeword, rows, selectors, erasures_by_word}
use Rattle.flat.proofs.Words.{codeword_data}
use Rattle.flat.proofs.Rows.{rows-length, rows_span, rows-indep, select-rows}
use Rattle.flat.proofs.Fatal.{fatal-inside, fatal-more, word_below, erasure_least, minimal_in, minimal_out}
use Rattle.flat.proofs.Members.{In, range_in, range_out, filter_in, filter_out, map_in, map_out, ordered_in, ordered_out}
use Rattle.flat.proofs.Order.{Rel, Sorted, Lex, sorted_range, sorted_filter, sorted_map, sorted_weaken, sorted_ordered, sorted_unique, lex_asym, lt_asym}
use Rattle.flat.proofs.Least.{least-inside, selectors_in, selectors_out, selectors_sorted}

module _ (C : Code) where
  abbrev every_set : List ℕ
  every_set = range 0 (2 ^ disks C)

  pub erasures_in : (S : ℕ) → S < 2 ^ disks C → T (minimal_erasure C S) → In S (erasures C)
  unfolding erasures data_part
  erasures_in S l t =
      let h : size S ≤ disks C = size_lt (disks C) S l in
      ordered_in size (suc (disks C)) S (ordered_by (data_part C) (2 ^ C.k) (filter (minimal_erasure C) every_set)) (omega arith)
      (ordered_in (data_part C) (2 ^ C.k) S (filter (minimal_erasure C) every_set) (mod-lt S (pow_pos C.k))
      (filter_in (minimal_erasure C) S every_set t (range_in 0 (2 ^ disks C) S (omega arith) (omega arith))))

  pub erasures_out : (S : ℕ) → In S (erasures C) → (S < 2 ^ disks C) × T (minimal_erasure C S)
  unfolding erasures
  erasures_out S t =
      let a = ordered_out size (suc (disks C)) S (ordered_by (data_part C) (2 ^ C.k) (filter (minimal_erasure C) every_set)) t in
      let b = ordered_out (data_part C) (2 ^ C.k) S (filter (minimal_erasure C) every_set) a.1 in
      let c = filter_out (minimal_erasure C) S every_set b.1 in
      let r = range_out 0 (2 ^ disks C) S c.1 in
      (omega arith, c.0)

  -- at most one for each data part
  pub one_per_data_part : (R S : ℕ) → T (minimal_erasure C R) → T (minimal_erasure C S) → data_part C R ≡ data_part C S → R ≡ S
  one_per_data_part R S t u e =
      let r = (rows_span C R).0 (minimal_out C R t).word in
      let s = (rows_span C S).0 (minimal_out C S u).word in
      sym r.2
      ∙ ap (codeword C) (sym (codeword_data C r.0 r.1) ∙ ap (data_part C) r.2 ∙ e ∙ ap (data_part C) (sym s.2) ∙ codeword_data C s.0 s.1)
      ∙ s.2

  -- smaller size first, then smaller data part
  abbrev pub Before : Rel
  Before = Lex size (λ R S. data_part C R < data_part C S)

  abbrev wide : Rel
  wide = Lex size (Lex (data_part C) (λ R S. R < S))

  erasures-wide : Sorted wide (erasures C)
  unfolding erasures
  erasures-wide =
      sorted_ordered (Lex (data_part C) (λ R S. R < S)) size (ordered_by (data_part C) (2 ^ C.k) (filter (minimal_erasure C) every_set))
      (sorted_ordered (λ R S. R < S) (data_part C) (filter (minimal_erasure C) every_set)
      (sorted_filter (λ R S. R < S) (minimal_erasure C) every_set (sorted_range 0 (2 ^ disks C))) (2 ^ C.k))
      (suc (disks C))

  pub erasures_sorted : Sorted Before (erasures C)
  erasures_sorted = sorted_weaken wide Before (erasures C) narrow erasures-wide
    where
      narrow : (R S : ℕ) → In R (erasures C) → In S (erasures C) → wide R S → Before R S
      narrow R S t u (inl l) = inl l
      narrow R S t u (inr (e, inl l)) = inr (e, l)
      narrow R S t u (inr (e, inr (d, l))) =
          absurd (lt_irrefl S (subst (λ (x : ℕ). x < S) (one_per_data_part R S (erasures_out R t).1 (erasures_out S u).1 d) l))

  pub fatal-listed : (S : ℕ) → T (fatal C S) ↔ ((R : ℕ) × In R (erasures C) × T (R ⊆ S))
  fatal-listed S = (
    λ t. let w = (fatal-inside C S).0 t in
        let b = word_below C w.0 w.1 in
        let r = least-inside (disks C) (fatal C) (suc w.0) w.0 (omega arith) b ((fatal-inside C w.0).1 (w.0, w.1, w.2, ⊆-refl w.0)) in
        (r.0, erasures_in r.0 r.1 ((erasure_least C r.0).1 r.3), ⊆_trans r.0 w.0 S r.2 w.3),
    λ r. fatal-more C r.0 S r.2 ((erasure_least C r.0).0 (erasures_out r.0 r.1).1).holds,
  )

  -- ---- one candidate for each data word

  by_word : List ℕ
  by_word = map (select (rows C)) (selectors (rows C))

  -- a number selects a minimal word where its codeword is one
  pub word_in : (x : ℕ) → x < 2 ^ C.k → Minimal (rows C) (codeword C x) → In x (selectors (rows C))
  word_in x l h =
      selectors_in (rows C) (rows-indep C) x (subst (λ (n : ℕ). x < 2 ^ n) (sym (rows-length C)) l)
      (subst (Minimal (rows C)) (sym (select-rows C x)) h)

  pub word_out : (x : ℕ) → In x (selectors (rows C)) → (x < 2 ^ C.k) × Minimal (rows C) (codeword C x)
  word_out x t =
      let (l, h) = selectors_out (rows C) (rows-indep C) x t in
      (subst (λ (n : ℕ). x < 2 ^ n) (rows-length C) l, subst (Minimal (rows C)) (select-rows C x) h)

  word_selects : (x : ℕ) → In x (selectors (rows C)) → data_part C (select (rows C) x) ≡ x
  word_selects x t = ap (data_part C) (select-rows C x) ∙ codeword_data C x (word_out x t).0

  pub erasures_enumerated : erasures C ≡ erasures_by_word C
  unfolding erasures_by_word by_word
  erasures_enumerated =
      sorted_unique wide (lex_asym size (Lex (data_part C) (λ R S. R < S)) (lex_asym (data_part C) (λ R S. R < S) lt_asym))
      (erasures C) (ordered_by size (suc (disks C)) by_word) erasures-wide
      (sorted_ordered (Lex (data_part C) (λ R S. R < S)) size by_word
      (sorted_map (λ x y. x < y) (Lex (data_part C) (λ R S. R < S)) (select (rows C)) (selectors (rows C))
      (λ x y t u l. inl (subst (λ (a : ℕ). a < data_part C (select (rows C) y)) (sym (word_selects x t))
      (subst (λ (b : ℕ). x < b) (sym (word_selects y u)) l)))
      (selectors_sorted (rows C)))
      (suc (disks C)))
      to from
    where
      to : (S : ℕ) → In S (erasures C) → In S (ordered_by size (suc (disks C)) by_word)
      to S t =
          let a = erasures_out S t in
          let m = minimal_out C S a.1 in
          let r = (rows_span C S).0 m.word in
          let x = r.0 in
          let e : select (rows C) x ≡ S = select-rows C x ∙ r.2 in
          let h : size S ≤ disks C = size_lt (disks C) S a.0 in
          ordered_in size (suc (disks C)) S by_word (omega arith)
          (subst (λ (y : ℕ). In y by_word) e
          (map_in (select (rows C)) x (selectors (rows C)) (word_in x r.1 (subst (Minimal (rows C)) (sym r.2) m))))

      from : (S : ℕ) → In S (ordered_by size (suc (disks C)) by_word) → In S (erasures C)
      from S t =
          let a = ordered_out size (suc (disks C)) S by_word t in
          let r = map_out (select (rows C)) S (selectors (rows C)) a.1 in
          let m : Minimal (rows C) S = subst (Minimal (rows C)) (sym (select-rows C r.0) ∙ r.2) (word_out r.0 r.1).1 in
          erasures_in S (word_below C S m.word) (minimal_in C S m)
