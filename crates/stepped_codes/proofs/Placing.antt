-- Placing by counts finds the i-th set of a size, and the i-th parity set.
-- Assumes nothing.
use mathlib.Core.Path.{◌≡◌, refl, sym, ap, ap₂, ◌∙◌, subst}
use mathlib.Core.Bool.{Bool, true, false, ◌&&◌}
use mathlib.Core.Logic.{◌⊎◌, inl, inr, ⊎_elim}
use mathlib.Core.List.{List, [], ◌∷◌, ◌++◌, map}
use Prim.Native.Nat.{ℕ, zero, suc, ◌+◌, ◌-◌, ◌^◌, ◌≤◌, ◌<◌}
use native.Mathlib.Omega.{arith}
use borrow.Author.Tests.{lt-ltb, le-ltb}
use lib.Dec.{T, eqb, ltb}
use lib.ListN.{length, get_or, length-append, get_or-append}
use lib.Seq.{get_or-append-add}
use Rattle.std.specs.Prelude.{if◌then◌else◌}
use Rattle.gf2.specs.Sets.{size}
use Rattle.gf2.proofs.Tests.{dec, T-ext, and_in, and_out, eqb_out, below_or}
use Rattle.flat.specs.Lists.{range, filter, each, ordered_by}
use Rattle.flat.proofs.Lists.{entry-map}
use Rattle.flat.proofs.Members.{filter_out}
use Rattle.flat.proofs.Filters.{filter-nil, filter-yes, filter-not, filter_none, filter_cong, filter-both}
use Rattle.stepped_codes.specs.Stepped.{size_ok, parity_sets, parity_set, choose}
use Rattle.stepped_codes.specs.Placing.{placed, placed_among, sizes}
use Rattle.stepped_codes.specs.Theorems.{PlacedSized, PlacedWhole}
use Rattle.stepped_codes.proofs.Counting.{sets, sets-suc, sized, sized-suc, sized-length}
use Rattle.stepped_codes.proofs.Combinations.{choose-none, choose-suc, placed_lacks, placed-has}

-- the entry at a place of two lists, one after the other
module _ (xs ys : List ℕ) (n i : ℕ) (long : length xs ≡ n) where
  pub in_first : i < n → get_or (xs ++ ys) i 0 ≡ get_or xs i 0
  in_first l = get_or-append xs ys 0 i (omega arith)

  pub in_second : n ≤ i → get_or (xs ++ ys) i 0 ≡ get_or ys (i - n) 0
  in_second l =
      let e : i ≡ length xs + (i - n) = omega arith in
      ap (λ (j : ℕ). get_or (xs ++ ys) j 0) e ∙ get_or-append-add xs ys (i - n) 0

-- ---- of one size

-- the first choose j s lack disk j
first_part : (j s i : ℕ) → i < choose j s → get_or (sized (suc j) s) i 0 ≡ get_or (sized j s) i 0
first_part j s i l =
    ap (λ (xs : List ℕ). get_or xs i 0) (sets-suc j (λ t. eqb t s))
    ∙ in_first (sized j s) (map (λ S. 2 ^ j + S) (sets j (λ t. eqb (suc t) s))) (choose j s) i (sized-length j s) l

-- the others have it
second_part : (j r i : ℕ) → choose j (suc r) ≤ i → i - choose j (suc r) < choose j r
    → get_or (sized (suc j) (suc r)) i 0 ≡ 2 ^ j + get_or (sized j r) (i - choose j (suc r)) 0
second_part j r i l h =
    let n = i - choose j (suc r) in
    ap (λ (xs : List ℕ). get_or xs i 0) (sized-suc j r)
    ∙ in_second (sized j (suc r)) (map (λ S. 2 ^ j + S) (sized j r)) (choose j (suc r)) i (sized-length j (suc r)) l
    ∙ entry-map (λ S. 2 ^ j + S) (sized j r) n (omega (arith, sized-length j r))

none-placed : (s i : ℕ) → get_or (sized 0 s) i 0 ≡ 0
unfolding filter range
none-placed s i = go (eqb (size 0) s) i
  where
    go : (b : Bool) (i : ℕ) → ◌≡◌ {A = ℕ} (get_or (if b then 0 ∷ [] else []) i 0) 0
    go true zero = refl
    go true (suc i) = refl
    go false i = refl

placed-sized : (m s i : ℕ) → i < choose m s → get_or (sized m s) i 0 ≡ placed m s i
unfolding placed
placed-sized zero s i l = none-placed s i
placed-sized (suc j) zero i l =
    let h : i < choose j 0 = omega (arith, choose-none j, choose-none (suc j)) in
    first_part j 0 i h ∙ placed-sized j 0 i h ∙ sym (placed_lacks j 0 i h)
placed-sized (suc j) (suc r) i l =
    ⊎_elim (λ h. first_part j (suc r) i h ∙ placed-sized j (suc r) i h ∙ sym (placed_lacks j (suc r) i h))
    (λ h. let u : i - choose j (suc r) < choose j r = omega (arith, choose-suc j r) in
    let e : r ≡ suc r - 1 = omega arith in
    second_part j r i h u ∙ ap (λ (x : ℕ). 2 ^ j + x) (placed-sized j r (i - choose j (suc r)) u)
    ∙ ap (λ (t : ℕ). 2 ^ j + placed j t (i - choose j (suc r))) e ∙ sym (placed-has j (suc r) i h))
    (below_or i (choose j (suc r)))

pub placed-of-size : PlacedSized
placed-of-size m s = (sized-length m s, placed-sized m s)

-- ---- of several sizes

-- how many sets of disks below m have one of these sizes
unfoldable pub counted : ℕ → List ℕ → ℕ
unfolding choose
counted m [] = 0
counted m (s ∷ ss) = choose m s + counted m ss

each-length : (m : ℕ) (ss : List ℕ) → length (each (sized m) ss) ≡ counted m ss
unfolding each counted
each-length m [] = refl
each-length m (s ∷ ss) = length-append (sized m s) (each (sized m) ss) ∙ ap₂ ◌+◌ (sized-length m s) (each-length m ss)

placed-each : (m : ℕ) (ss : List ℕ) (i : ℕ) → i < counted m ss → get_or (each (sized m) ss) i 0 ≡ placed_among m ss i
unfolding each counted placed_among
placed-each m [] i l = refl
placed-each m (s ∷ ss) i l = go (below_or i (choose m s)) (placed-each m ss (i - choose m s))
  where
    go : (i < choose m s) ⊎ (choose m s ≤ i)
        → (i - choose m s < counted m ss → get_or (each (sized m) ss) (i - choose m s) 0 ≡ placed_among m ss (i - choose m s))
        → get_or (sized m s ++ each (sized m) ss) i 0 ≡ (if ltb i (choose m s) then placed m s i else placed_among m ss (i - choose m s))
    go (inl h) rest =
        in_first (sized m s) (each (sized m) ss) (choose m s) i (sized-length m s) h ∙ placed-sized m s i h ∙ rw (lt-ltb i (choose m s) h)
    go (inr h) rest =
        in_second (sized m s) (each (sized m) ss) (choose m s) i (sized-length m s) h ∙ rest (omega arith) ∙ rw (le-ltb i (choose m s) h)

-- ---- the parity sets, size by size

module _ (d m : ℕ) where
  -- those of one size
  block-yes : (v : ℕ) → T (size_ok d v) → filter (λ S. eqb (size S) v) (sets m (size_ok d)) ≡ sized m v
  block-yes v t =
      sym (filter-both (λ S. size_ok d (size S)) (λ S. eqb (size S) v) (range 0 (2 ^ m)))
      ∙ filter_cong (λ S. size_ok d (size S) && eqb (size S) v) (λ S. eqb (size S) v) (range 0 (2 ^ m))
      (λ S h. T-ext (λ u. (and_out (size_ok d (size S)) (eqb (size S) v) u).1)
      (λ u. and_in (size_ok d (size S)) (eqb (size S) v) (subst (λ (s : ℕ). T (size_ok d s)) (sym (eqb_out (size S) v u)) t) u))

  block_no : (v : ℕ) → (T (size_ok d v) → ⊥) → filter (λ S. eqb (size S) v) (sets m (size_ok d)) ≡ []
  block_no v f =
      filter_none (λ S. eqb (size S) v) (sets m (size_ok d))
      (λ S h u. f (subst (λ (s : ℕ). T (size_ok d s)) (eqb_out (size S) v u) (filter_out (λ R. size_ok d (size R)) S (range 0 (2 ^ m)) h).0))

  by_size_lem : (vs : List ℕ) → each (λ v. filter (λ S. eqb (size S) v) (sets m (size_ok d))) vs ≡ each (sized m) (filter (size_ok d) vs)
  unfolding each
  by_size_lem [] = ap (each (sized m)) (sym (filter-nil (size_ok d)))
  by_size_lem (v ∷ vs) =
      ⊎_elim (λ t. ap₂ ◌++◌ (block-yes v t) (by_size_lem vs) ∙ sym (ap (each (sized m)) (filter-yes (size_ok d) v vs t)))
      (λ f. ap₂ ◌++◌ (block_no v f) (by_size_lem vs) ∙ sym (ap (each (sized m)) (filter-not (size_ok d) v vs f))) (dec (size_ok d v))

  sets-by-size : parity_sets d m ≡ each (sized m) (sizes d m)
  unfolding parity_sets ordered_by sizes
  sets-by-size = by_size_lem (range 0 (suc m))

  pub sets-counted : length (parity_sets d m) ≡ counted m (sizes d m)
  sets-counted = ap length sets-by-size ∙ each-length m (sizes d m)

  pub placed-whole : (i : ℕ) → i < length (parity_sets d m) → parity_set d m i ≡ placed_among m (sizes d m) i
  unfolding parity_set
  placed-whole i l = ap (λ (xs : List ℕ). get_or xs i 0) sets-by-size ∙ placed-each m (sizes d m) i (omega (arith, sets-counted))

pub placed-of-all : PlacedWhole
placed-of-all = placed-whole
