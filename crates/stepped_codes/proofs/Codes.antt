-- The stepped code of d, m and k, where k is within the bounds: no fatal set is smaller than d, one is as small, and no column is refused.
-- Assumes nothing.
use mathlib.Core.Path.{◌≡◌, refl, sym, ap, ◌∙◌, subst}
use mathlib.Core.Bool.{Bool, true}
use mathlib.Core.Logic.{◌⊎◌, inl, inr, ◌≢◌, ⊎_elim}
use mathlib.Core.List.{List, ◌∷◌}
use Prim.Native.Nat.{ℕ, zero, suc, ◌+◌, ◌-◌, ◌%◌, ◌^◌, ◌≤◌, ◌<◌}
use native.Mathlib.Omega.{arith}
use borrow.Author.Tests.{lt-ltb}
use lib.Dec.{T, eqb, leb, ltb}
use lib.ListN.{length, get_or}
use lib.Pow.{pow_mono}
use Rattle.gf2.specs.Sets.{has, size, over}
use Rattle.gf2.proofs.Tests.{T_true, leb_in, ltb_in, and_in, eqb_out, below_or}
use Rattle.gf2.proofs.Bits.{has_pos}
use Rattle.gf2.proofs.Subsets.{⊆-refl}
use Rattle.gf2.proofs.Sizes.{size_lt, size_power}
use Rattle.gf2.proofs.Sums.{over-disk}
use Rattle.flat.specs.Lists.{set_of, range, tabulate}
use Rattle.flat.specs.Cards.{Code, count_ok, column_ok}
use Rattle.flat.specs.Erasures.{fatal}
use Rattle.flat.specs.Spans.{codeword}
use Rattle.flat.proofs.Lists.{length-tabulate, get_d_tabulate}
use Rattle.flat.proofs.Quantifiers.{set_lt, set_in}
use Rattle.flat.proofs.Members.{in_at, filter_out}
use Rattle.flat.proofs.Cards.{Sound, all_good}
use Rattle.flat.proofs.Fatal.{fatal_in}
use Rattle.stepped_codes.specs.Stepped.{distance_ok, size_ok, step, parity_sets, parity_set, stepped, stepped_column, choose, within_bounds}
use Rattle.stepped_codes.specs.Placing.{placed, placed_among, sizes}
use Rattle.stepped_codes.specs.Theorems.{Distance}
use Rattle.stepped_codes.proofs.Sizes.{three_or_four, distance_in, sizes_are}
use Rattle.stepped_codes.proofs.Counting.{sized}
use Rattle.stepped_codes.proofs.Listed.{set-low, set-sized, sets-apart}
use Rattle.stepped_codes.proofs.Bounds.{no-parity, bounds_count}
use Rattle.stepped_codes.proofs.Combinations.{choose_pos, choose_above}
use Rattle.stepped_codes.proofs.Placing.{placed-whole, sets-counted, counted, placed-of-size}
use Rattle.stepped_codes.proofs.Distance.{from_sets, codeword-size, three, four, fatal-size}
use Rattle.stepped_codes.proofs.Stepping.{first-size, least_size, sizes_from, sizes-first, sizes-next}
use Rattle.stepped_codes.proofs.Covering.{covered}

-- ---- distance: enough parity sets are all it needs

module _ (d m k : ℕ) (ok : T (distance_ok d)) (enough : k ≤ length (parity_sets d m)) where
  low : (i : ℕ) → i < k → parity_set d m i < 2 ^ m
  low i h = set-low d m i (omega arith)

  is : stepped d m k ≡ from_sets m k (parity_set d m) low
  unfolding stepped stepped_column
  is = refl

  word_size : (x : ℕ) → x < 2 ^ k → x ≢ 0 → d ≤ size x + size (over k x (parity_set d m))
  word_size x h g = go (three_or_four d ok)
    where
      apart : (i j : ℕ) → i < k → j < k → i ≢ j → parity_set d m i ≢ parity_set d m j
      apart i j a b = sets-apart d m i j (omega arith) (omega arith)

      of : (e i : ℕ) → d ≡ e → i < k → T (size_ok e (size (parity_set d m i)))
      of e i q a = subst (λ (c : ℕ). T (size_ok c (size (parity_set d m i)))) q (set-sized d m i (omega arith))

      go : (d ≡ 3) ⊎ (d ≡ 4) → d ≤ size x + size (over k x (parity_set d m))
      go (inl e) =
          omega (
            arith,
            three m k (parity_set d m) low (λ i a. let r = (sizes_are (size (parity_set d m i))).0.0 (of 3 i e a) in let q = r.1 in omega arith) apart x h g,
          )
      go (inr e) =
          let odd : (i : ℕ) → i < k → (2 ≤ size (parity_set d m i)) × (size (parity_set d m i) % 2 ≡ 1) =
          λ i a. let r = (sizes_are (size (parity_set d m i))).1.0 (of 4 i e a) in let q = r.1 in (omega arith, omega arith) in
          omega (arith, four m k (parity_set d m) low (λ i a. (odd i a).0) (λ i a. (odd i a).1) apart x h g)

  fatal_large : (S : ℕ) → T (fatal (stepped d m k) S) → d ≤ size S
  fatal_large S t = fatal-size m k (parity_set d m) low d S word_size (subst (λ (C : Code). T (fatal C S)) is t)

pub distance : Distance
distance d zero k S ok t f = absurd (no-parity d k t)
distance d (suc n) k S ok t f = fatal_large d (suc n) k ok ((bounds_count d n k ok).0 t).1 S f

-- ---- what the bounds tell besides

module _ (d n k : ℕ) (ok : T (distance_ok d)) (within : T (within_bounds d (suc n) k)) where
  few : length (parity_sets d n) < k
  few = ((bounds_count d n k ok).0 within).0

  pub enough : k ≤ length (parity_sets d (suc n))
  enough = ((bounds_count d n k ok).0 within).1

  -- there are sets of d - 1 parity disks
  sets-of-least : d - 1 ≤ suc n
  sets-of-least =
      let l : 0 < length (parity_sets d (suc n)) = omega (arith, few, enough) in
      omega (arith, size_lt (suc n) (parity_set d (suc n) 0) (set-low d (suc n) 0 l), least_size d ok (size (parity_set d (suc n) 0)) (set-sized d (suc n) 0 l))

  -- and they come first
  begins : (p : ℕ) → d - 1 ≤ p → sizes d p ≡ (d - 1) ∷ sizes_from d p (d - 1 + step d)
  begins p l = sizes-first d p ok ∙ sizes-next d p ok (d - 1) (first-size d ok) l

  count-least : (p : ℕ) → choose p (d - 1) ≤ length (parity_sets d p)
  unfolding counted
  count-least p = ⊎_elim (λ l. omega (arith, choose_above p (d - 1) l)) (λ l. rw (sets-counted d p ∙ ap (counted p) (begins p l)) (omega arith)) (below_or p (d - 1))

  least-placed : (i : ℕ) → i < choose (suc n) (d - 1) → parity_set d (suc n) i ≡ placed (suc n) (d - 1) i
  unfolding placed_among
  least-placed i l =
      placed-whole d (suc n) i (omega (arith, count-least (suc n))) ∙ ap (λ (ss : List ℕ). placed_among (suc n) ss i) (begins (suc n) sets-of-least)
      ∙ rw (lt-ltb i (choose (suc n) (d - 1)) l)

  -- no column is refused: each parity disk is in one of the first sets
  column_ok_lem : (j : ℕ) → j < suc n → column_ok k (stepped_column d (suc n) k j) ≡ true
  unfolding column_ok stepped_column
  column_ok_lem j l =
      let two : 1 ≤ d - 1 = omega (arith, distance_in d ok) in
      let v = covered n (d - 1) j two sets-of-least l in
      let a = v.1 in
      let i_lt : v.0 < k = omega (arith, count-least n, few) in
      let t : T (has (parity_set d (suc n) v.0) j) = subst (λ (S : ℕ). T (has S j)) (sym (least-placed v.0 v.2)) v.3 in
      let p : ℕ → Bool = λ i. has (parity_set d (suc n) i) j in
      T_true (and_in (leb 1 (set_of k p)) (ltb (set_of k p) (2 ^ k)) (leb_in (has_pos (set_of k p) v.0 (set_in k p v.0 i_lt t))) (ltb_in (set_lt k p)))

  pub stepped-sound : count_ok k ≡ true → count_ok (suc n) ≡ true → Sound (stepped d (suc n) k)
  unfolding stepped
  stepped-sound k_ok m_ok =
      let cs = tabulate (suc n) (stepped_column d (suc n) k) in
      let long = length-tabulate (suc n) (stepped_column d (suc n) k) in
      record {
        k_ok = k_ok;
        m_ok = m_ok;
        first = omega (
          arith,
          long,
          all_good k cs (λ j l. let h : j < suc n = omega arith in
              ap (column_ok k) (get_d_tabulate (suc n) (stepped_column d (suc n) k) j h) ∙ column_ok_lem j h),
        );
      }

  -- data disk 0's parity set has d - 1 disks
  first-disks : size (parity_set d (suc n) 0) ≡ d - 1
  first-disks =
      let l : 0 < choose (suc n) (d - 1) = choose_pos (suc n) (d - 1) sets-of-least in
      let p = placed-of-size (suc n) (d - 1) in
      ap size (least-placed 0 l ∙ sym (p.1 0 l))
      ∙ eqb_out (size (get_or (sized (suc n) (d - 1)) 0 0)) (d - 1)
      (filter_out (λ S. eqb (size S) (d - 1)) (get_or (sized (suc n) (d - 1)) 0 0) (range 0 (2 ^ suc n))
      (in_at (sized (suc n) (d - 1)) 0 (omega (arith, p.0)))).0

  -- so with it, it is a fatal set of d disks
  pub least-fatal : (S : ℕ) × T (fatal (stepped d (suc n) k) S) × (size S ≡ d)
  unfolding stepped
  least-fatal =
      let C = stepped d (suc n) k in
      let f = parity_set d (suc n) in
      let k-pos : 1 ≤ k = omega (arith, few) in
      let one : 1 < 2 ^ k = (let h : 2 ^ 1 ≤ 2 ^ k = pow_mono k-pos in omega arith) in
      let s : size (codeword C 1) ≡ size 1 + size (over k 1 f) =
      ap (λ (D : Code). size (codeword D 1)) (is d (suc n) k ok enough) ∙ codeword-size (suc n) k f (low d (suc n) k ok enough) 1 one in (
        codeword C 1,
        fatal_in C (codeword C 1) 1 one (λ e. omega arith) (⊆-refl (codeword C 1)),
        omega (arith, s, size_power 0, ap size (over-disk k 0 f k-pos), first-disks, distance_in d ok),
      )
