-- A set's weight is its total wear, then how many disks it holds, then how many parity disks: so ranks are in the order of `Better`.
-- Assumes nothing.
use mathlib.Core.Path.{◌≡◌, refl, ap}
use mathlib.Core.Bool.{Bool, true, false}
use mathlib.Core.Logic.{◌⊎◌, inl, inr, ⊎_elim}
use mathlib.Core.List.{List}
use Prim.Native.Nat.{ℕ, ◌+◌, ◌-◌, ◌*◌, ◌^◌, ◌≤◌, ◌<◌}
use native.Mathlib.Omega.{arith}
use lib.Dec.{ltb}
use lib.ListN.{get_or}
use lib.Pow.{pow_mono}
use Rattle.std.specs.Prelude.{if◌then◌else◌}
use Rattle.gf2.specs.Sets.{has, size}
use Rattle.gf2.proofs.Tests.{ltb_in, ltb_out, below_or, if_true, if_false}
use Rattle.gf2.proofs.Sizes.{size_lt}
use Rattle.flat.specs.Lists.{sum}
use Rattle.flat.specs.Cards.{Code, disks}
use Rattle.flat.specs.Equations.{parity_disks}
use Rattle.flat.proofs.Lists.{tabulate_cong}
use Rattle.flat.proofs.Counts.{count_le, size-count}
use Rattle.flat.proofs.Totals.{sum_zeros}
use Rattle.wear.specs.Wear.{sum_over, total_wear}
use Rattle.wear.proofs.Sums.{sum_parts, count-sum, over_add, over_scaled, over-alike, over_beyond, over_fun}
use Rattle.least_wear.specs.Forms.{weight_of, rank_of, BetterRank}

-- the definitions, opened once
total-is : (C : Code) (ws : List ℕ) (E : ℕ) → total_wear C ws E ≡ sum_over (disks C) E (λ i. get_or ws i 0)
unfolding total_wear
total-is C ws E = refl

weight-at : (k : ℕ) (ws : List ℕ) (i : ℕ) → weight_of k ws i ≡ get_or ws i 0 * 2048 + 32 + (if ltb i k then 0 else 1)
unfolding weight_of
weight-at k ws i = refl

-- of a data disk, and of a parity disk
pub weight_data : (k : ℕ) (ws : List ℕ) (i : ℕ) → i < k → weight_of k ws i ≡ get_or ws i 0 * 2048 + 32
weight_data k ws i l = omega (arith, weight-at k ws i, if_true {A = ℕ} (ltb i k) 0 1 (ltb_in l))

pub weight-parity : (k : ℕ) (ws : List ℕ) (i : ℕ) → k ≤ i → weight_of k ws i ≡ get_or ws i 0 * 2048 + 33
weight-parity k ws i l = omega (arith, weight-at k ws i, if_false {A = ℕ} (ltb i k) 0 1 (λ t. let m = ltb_out i k t in omega arith))

-- a byte's
weight-most : (k : ℕ) (ws : List ℕ) (i : ℕ) → get_or ws i 0 < 256 → weight_of k ws i ≤ 522273
weight-most k ws i h = ⊎_elim (λ l. omega (arith, weight_data k ws i l)) (λ l. omega (arith, weight-parity k ws i l)) (below_or i k)

-- and of any disk, where wears are bytes
pub weights-most : (k : ℕ) (ws : List ℕ) → ((i : ℕ) → get_or ws i 0 < 256) → (i : ℕ) → weight_of k ws i ≤ 522273
weights-most k ws h i = weight-most k ws i (h i)

pub rank_is : (weight : ℕ → ℕ) (E : ℕ) → rank_of weight E ≡ sum_over 32 E weight * 2 ^ 32 + E
unfolding rank_of
rank_is weight E = refl

module _ (C : Code) (ws : List ℕ) where
  -- 1 for each parity disk
  own : ℕ → ℕ
  own i = if ltb i C.k then 0 else 1

  own_data : (i : ℕ) → i < C.k → own i ≡ 0
  unfolding own
  own_data i l = if_true (ltb i C.k) 0 1 (ltb_in l)

  own-parity : (j : ℕ) → own (C.k + j) ≡ 1
  unfolding own
  own-parity j = if_false (ltb (C.k + j) C.k) 0 1 (λ t. let l = ltb_out (C.k + j) C.k t in omega arith)

  parities-held : (E : ℕ) → sum_over (C.k + C.m) E own ≡ parity_disks C E
  unfolding sum_over parity_disks
  parities-held E =
      let none-data = ap sum (tabulate_cong C.k (λ i. if has E i then own i else 0) (λ i. 0) (λ i l. none (has E i) (own i) (own_data i l))) in
      let all-parities =
      ap sum (tabulate_cong C.m (λ j. if has E (C.k + j) then own (C.k + j) else 0) (λ j. if has E (C.k + j) then 1 else 0)
      (λ j l. ap (λ (x : ℕ). if has E (C.k + j) then x else 0) (own-parity j))) in
      omega (
        arith,
        sum_parts C.k C.m (λ i. if has E i then own i else 0),
        none-data,
        sum_zeros C.k (λ i. 0) (λ i. refl),
        all-parities,
        count-sum C.m (λ j. has E (C.k + j)),
      )
    where
      none : (b : Bool) (v : ℕ) → v ≡ 0 → (if b then v else 0) ≡ 0
      none true v e = e
      none false v e = refl

  -- at any width that the code's disks fit in
  weight_is : (N E : ℕ) → disks C ≤ N → E < 2 ^ disks C
      → sum_over N E (weight_of C.k ws) ≡ total_wear C ws E * 2048 + size E * 32 + parity_disks C E
  unfolding disks own
  weight_is N E h l =
      let n = C.k + C.m in
      let wear : ℕ → ℕ = λ i. get_or ws i 0 * 2048 in
      let e : N ≡ n + (N - n) = omega arith in
      omega (
        arith,
        ap (λ (x : ℕ). sum_over x E (weight_of C.k ws)) e,
        over_beyond n (N - n) E (weight_of C.k ws) l,
        over_fun n E (weight_of C.k ws) (λ i. wear i + 32 + own i) (λ i m. weight-at C.k ws i),
        over_add n E (λ i. wear i + 32) own,
        over_add n E wear (λ i. 32),
        over_scaled n E 2048 (λ i. get_or ws i 0),
        over-alike n (λ i. 32) 32 E (λ i m. refl),
        parities-held E,
        total-is C ws E,
        size-count n E l,
      )

parities-most : (C : Code) (E : ℕ) → parity_disks C E ≤ C.m
unfolding parity_disks
parities-most C E = count_le C.m (λ j. has E (C.k + j))

-- by numbers alone: total, size, parity disks and set of the one and of the other
before-rank : (t s p e u v q f : ℕ) → s ≤ 32 → p ≤ 16 → v ≤ 32 → q ≤ 16 → e < 2 ^ 32 → f < 2 ^ 32
    → (t < u) ⊎ ((t ≡ u) × ((s < v) ⊎ ((s ≡ v) × ((p < q) ⊎ ((p ≡ q) × (e < f))))))
    → (t * 2048 + s * 32 + p) * 2 ^ 32 + e < (u * 2048 + v * 32 + q) * 2 ^ 32 + f
before-rank t s p e u v q f a b c d g h (inl l) = omega arith
before-rank t s p e u v q f a b c d g h (inr (i, inl l)) = omega arith
before-rank t s p e u v q f a b c d g h (inr (i, inr (j, inl l))) = omega arith
before-rank t s p e u v q f a b c d g h (inr (i, inr (j, inr (k, l)))) = omega arith

pub better-rank : BetterRank
better-rank C ws E F h sixteen l m b =
    let wide : 2 ^ disks C ≤ 2 ^ 32 = pow_mono h in
    rw (rank_is (weight_of C.k ws) E, rank_is (weight_of C.k ws) F, weight_is C ws 32 E h l, weight_is C ws 32 F h m)
    (before-rank (total_wear C ws E) (size E) (parity_disks C E) E (total_wear C ws F) (size F) (parity_disks C F) F
    (few E l) (parities-few E) (few F m) (parities-few F) (omega arith) (omega arith) b)
  where
    few : (G : ℕ) → G < 2 ^ disks C → size G ≤ 32
    few G g = omega (arith, size_lt (disks C) G g)

    parities-few : (G : ℕ) → parity_disks C G ≤ 16
    parities-few G = omega (arith, parities-most C G)
