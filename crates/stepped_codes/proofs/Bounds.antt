-- The bounds on k: as the document prints them, and that they say that m parity disks have enough parity sets, and one less has not.
-- Assumes nothing.
use mathlib.Core.Path.{◌≡◌, refl, sym, subst}
use mathlib.Core.Bool.{Bool, true, false, ◌&&◌}
use mathlib.Core.Logic.{◌⊎◌, inl, inr, ◌↔◌, ⊎_elim}
use Prim.Native.Nat.{ℕ, zero, suc, ◌+◌, ◌-◌, ◌*◌, ◌^◌, ◌≤◌, ◌<◌}
use native.Mathlib.Nat.{pow-suc}
use native.Mathlib.Omega.{arith}
use lib.Dec.{T, eqb, leb, ltb}
use lib.ListN.{length}
use lib.Pow.{pow_mono}
use Rattle.std.specs.Prelude.{if◌then◌else◌}
use Rattle.gf2.proofs.Bits.{lt_pow}
use Rattle.gf2.proofs.Tests.{ltb_in, ltb_out, leb_in, leb_out, and_in, and_out, below_or}
use Rattle.stepped_codes.specs.Stepped.{parity_sets, within_bounds}
use Rattle.stepped_codes.specs.Theorems.{BoundsPrinted, BoundsCount, SixAtMost}
use Rattle.stepped_codes.proofs.Sizes.{three_or_four}
use Rattle.stepped_codes.proofs.Listed.{parity-set-counts}

-- two comparisons
both_in : {a b c d : ℕ} → a < b → c ≤ d → T (ltb a b && leb c d)
both_in {a} {b} {c} {d} l h = and_in (ltb a b) (leb c d) (ltb_in l) (leb_in h)

both_out : (a b c d : ℕ) → T (ltb a b && leb c d) → (a < b) × (c ≤ d)
both_out a b c d t = let p = and_out (ltb a b) (leb c d) t in (ltb_out a b p.0, leb_out c d p.1)

module _ (m k : ℕ) where
  three_out : T (within_bounds 3 m k) → (2 ^ m < 2 * (k + m)) × (k + m + 1 ≤ 2 ^ m)
  unfolding within_bounds
  three_out t = both_out (2 ^ m) (2 * (k + m)) (k + m + 1) (2 ^ m) t

  three_in : 2 ^ m < 2 * (k + m) → k + m + 1 ≤ 2 ^ m → T (within_bounds 3 m k)
  unfolding within_bounds
  three_in l h = both_in l h

  four_out : T (within_bounds 4 m k) → (2 ^ m + 4 < 4 * (k + m)) × (2 * (k + m) ≤ 2 ^ m)
  unfolding within_bounds
  four_out t = both_out (2 ^ m + 4) (4 * (k + m)) (2 * (k + m)) (2 ^ m) t

  four_in : 2 ^ m + 4 < 4 * (k + m) → 2 * (k + m) ≤ 2 ^ m → T (within_bounds 4 m k)
  unfolding within_bounds
  four_in l h = both_in l h

  -- whatever d is, it is one or the other
  either : (d : ℕ) → T (within_bounds d m k) → T (within_bounds 3 m k) ⊎ T (within_bounds 4 m k)
  unfolding within_bounds
  either d =
      go (eqb d 3) (ltb (2 ^ m) (2 * (k + m)) && leb (k + m + 1) (2 ^ m)) (ltb (2 ^ m + 4) (4 * (k + m)) && leb (2 * (k + m)) (2 ^ m))
    where
      go : (b x y : Bool) → T (if b then x else y) → T x ⊎ T y
      go true x y t = inl t
      go false x y t = inr t

-- with no parity disk, and with one, there is none
none_within : (d m k : ℕ) → m ≤ 1 → T (within_bounds d m k) → ⊥
none_within d m k l t =
    let p : 2 ^ m ≤ 2 = pow_mono {i = m} {j = 1} l in
    let q : m < 2 ^ m = lt_pow m in
    ⊎_elim (λ u. let o = three_out m k u in let a = o.0 in let b = o.1 in omega arith)
    (λ u. let o = four_out m k u in let a = o.0 in let b = o.1 in omega arith) (either m k d t)

pub no-parity : (d k : ℕ) → T (within_bounds d 0 k) → ⊥
no-parity d k = none_within d 0 k (omega arith)

-- ---- as printed

pub bounds_printed : BoundsPrinted
bounds_printed n k = (
  (
    λ t. let p = three_out (suc n) k t in
        let a = p.0 in
        let b = p.1 in
        (omega (arith, pow-suc 2 n), b),
    λ p. let a = p.0 in three_in (suc n) k (omega (arith, pow-suc 2 n)) p.1,
  ),
  (
    λ t. let p = four_out (suc (suc n)) k t in
        let a = p.0 in
        let b = p.1 in
        (omega (arith, pow-suc 2 n, pow-suc 2 (suc n)), omega (arith, pow-suc 2 (suc n))),
    λ p. let a = p.0 in
        let b = p.1 in
        four_in (suc (suc n)) k (omega (arith, pow-suc 2 n, pow-suc 2 (suc n))) (omega (arith, pow-suc 2 (suc n))),
  ),
  λ d. none_within d 1 k (omega arith),
)

-- ---- as counts

count_three : (n k : ℕ) → T (within_bounds 3 (suc n) k) ↔ ((length (parity_sets 3 n) < k) × (k ≤ length (parity_sets 3 (suc n))))
count_three n k =
    let few = (parity-set-counts n).0 in
    let enough = (parity-set-counts (suc n)).0 in (
      λ t. let p = three_out (suc n) k t in
          let a = p.0 in
          let b = p.1 in
          (omega (arith, pow-suc 2 n), omega arith),
      λ p. let a = p.0 in
          let b = p.1 in
          three_in (suc n) k (omega (arith, pow-suc 2 n)) (omega arith),
    )

-- of no parity disks there is none
none_four : length (parity_sets 4 0) ≡ 0
unfolding parity_sets
none_four = refl

count_four : (n k : ℕ) → T (within_bounds 4 (suc n) k) ↔ ((length (parity_sets 4 n) < k) × (k ≤ length (parity_sets 4 (suc n))))
count_four zero k =
    let few = none_four in
    let enough = (parity-set-counts 0).1 in (
      λ t. let b = (four_out 1 k t).1 in let a = (four_out 1 k t).0 in absurd (omega arith),
      λ p. let a = p.0 in let b = p.1 in absurd (omega arith),
    )
count_four (suc n) k =
    let few = (parity-set-counts n).1 in
    let enough = (parity-set-counts (suc n)).1 in (
      λ t. let p = four_out (suc (suc n)) k t in
          let a = p.0 in
          let b = p.1 in
          (omega (arith, pow-suc 2 n, pow-suc 2 (suc n)), omega (arith, pow-suc 2 (suc n))),
      λ p. let a = p.0 in
          let b = p.1 in
          four_in (suc (suc n)) k (omega (arith, pow-suc 2 n, pow-suc 2 (suc n))) (omega (arith, pow-suc 2 (suc n))),
    )

pub bounds_count : BoundsCount
bounds_count d n k ok = ⊎_elim (λ e. rw e (count_three n k)) (λ e. rw e (count_four n k)) (three_or_four d ok)

-- ---- few parity disks

power_above : (n : ℕ) → 4 * (7 + n) + 64 ≤ 2 ^ (7 + n)
power_above zero = omega arith
power_above (suc n) =
    let e : 7 + suc n ≡ suc (7 + n) = omega arith in
    rw e (omega (arith, power_above n, pow-suc 2 (7 + n)))

pub six-at-most : SixAtMost
six-at-most d m k t l = ⊎_elim (λ h. omega arith) (λ h. absurd (many (either m k d t) h)) (below_or m 7)
  where
    many : T (within_bounds 3 m k) ⊎ T (within_bounds 4 m k) → 7 ≤ m → ⊥
    many b h =
        let e : m ≡ 7 + (m - 7) = omega arith in
        let p : 4 * m + 64 ≤ 2 ^ m = subst (λ (x : ℕ). 4 * x + 64 ≤ 2 ^ x) (sym e) (power_above (m - 7)) in
        ⊎_elim (λ u. let a = (three_out m k u).0 in omega arith) (λ u. let a = (four_out m k u).0 in omega arith) b
