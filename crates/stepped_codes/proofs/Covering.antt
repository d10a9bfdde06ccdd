-- Each parity disk is in one of the first k parity sets, so no column is empty.
-- Assumes nothing.
use mathlib.Core.Path.{◌≡◌, sym, ◌∙◌, subst}
use mathlib.Core.Logic.{◌⊎◌, inl, inr}
use Prim.Native.Nat.{ℕ, zero, suc, ◌+◌, ◌-◌, ◌^◌, ◌≤◌, ◌<◌}
use native.Mathlib.Omega.{arith}
use lib.Dec.{T}
use Rattle.gf2.specs.Sets.{has, ◌⊕◌}
use Rattle.gf2.proofs.Tests.{below_or, below_suc}
use Rattle.gf2.proofs.Subsets.{member_below, ⊕-left, plus-has, power_out}
use Rattle.gf2.proofs.Made.{add_power}
use Rattle.stepped_codes.specs.Stepped.{choose}
use Rattle.stepped_codes.specs.Placing.{placed}
use Rattle.stepped_codes.proofs.Combinations.{choose-suc, choose_pos, choose_above, placed_lt, placed_lacks, placed-has}

-- ---- a disk above a set

above_is : (j S : ℕ) → S < 2 ^ j → 2 ^ j + S ≡ S ⊕ 2 ^ j
above_is j S l = let e : 2 ^ j + S ≡ S + 2 ^ j = omega arith in e ∙ add_power j S l

above_has : (j S : ℕ) → S < 2 ^ j → T (has (2 ^ j + S) j)
above_has j S l = rw (above_is j S l) (plus-has S j (λ t. let h = member_below j S j l t in omega arith))

above_keeps : (j S i : ℕ) → S < 2 ^ j → i < j → T (has S i) → T (has (2 ^ j + S) i)
above_keeps j S i l h t = rw (above_is j S l) (⊕-left S (2 ^ j) i t (λ u. let e = power_out j i u in omega arith))

-- ---- placed sets

-- the first that has disk j
first-has : (j r : ℕ) → placed (suc j) (suc r) (choose j (suc r)) ≡ 2 ^ j + placed j r 0
first-has j r =
    let n = choose j (suc r) in
    let e : n - n ≡ 0 = omega arith in
    let q : suc r - 1 ≡ r = omega arith in
    placed-has j (suc r) n (omega arith) ∙ rw (e, q)

-- parity disk j of suc n is in one of the first choose n s + 1 sets of size s
abbrev Covered : ℕ → ℕ → ℕ → Type 0
Covered n s j = (i : ℕ) × (i ≤ choose n s) × (i < choose (suc n) s) × T (has (placed (suc n) s i) j)

-- the first set that has disk n, where it holds disk j
by_first : (n r j : ℕ) → r ≤ n → T (has (2 ^ n + placed n r 0) j) → Covered n (suc r) j
by_first n r j l t = (choose n (suc r), omega arith, omega (arith, choose-suc n r, choose_pos n r l), subst (λ (S : ℕ). T (has S j)) (sym (first-has n r)) t)

pub covered : (n s j : ℕ) → 1 ≤ s → s ≤ suc n → j < suc n → Covered n s j
covered n zero j a b c = absurd (omega arith)
covered zero (suc r) j a b c =
    let e : j ≡ 0 = omega arith in
    by_first 0 r j (omega arith) (rw e (above_has 0 (placed 0 r 0) (placed_lt 0 r 0)))
covered (suc n) (suc r) j a b c = go (below_suc j (suc n) c) (below_or (suc n) (suc r)) (covered n (suc r) j) (covered n r j)
  where
    go : (j < suc n) ⊎ (j ≡ suc n) → (suc n < suc r) ⊎ (suc r ≤ suc n) → (1 ≤ suc r → suc r ≤ suc n → j < suc n → Covered n (suc r) j)
        → (1 ≤ r → r ≤ suc n → j < suc n → Covered n r j) → Covered (suc n) (suc r) j
    go (inr e) w p q = by_first (suc n) r j (omega arith) (rw e (above_has (suc n) (placed (suc n) r 0) (placed_lt (suc n) r 0)))
    go (inl l) (inr w) p q =
        let v = p (omega arith) w l in
        let h = v.2 in (
          v.0,
          omega arith,
          omega (arith, choose-suc (suc n) r),
          subst (λ (S : ℕ). T (has S j)) (sym (placed_lacks (suc n) (suc r) v.0 h)) v.3,
        )
    go (inl l) (inl w) p q =
        let v = q (omega arith) (omega arith) l in
        let h = v.1 in
        let z : v.0 ≡ 0 = omega (arith, choose_above n r (omega arith)) in
        by_first (suc n) r j (omega arith)
        (above_keeps (suc n) (placed (suc n) r 0) j (placed_lt (suc n) r 0) l (subst (λ (i : ℕ). T (has (placed (suc n) r i) j)) z v.3))
