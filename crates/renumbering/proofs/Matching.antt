-- Tables of which each entry occurs as often in the one as in the other: a rearrangement carries the one to the other, and the other way round.
-- Assumes nothing.
use mathlib.Core.Path.{◌≡◌, refl, sym, ap, ◌∙◌}
use mathlib.Core.Logic.{◌⊎◌, inl, inr, ⊎_elim}
use Prim.Native.Nat.{ℕ, zero, suc, ◌+◌, ◌<◌}
use native.Mathlib.Omega.{arith}
use lib.Dec.{T, eqb}
use Rattle.std.specs.Prelude.{if◌then◌else◌}
use Rattle.gf2.proofs.Tests.{eqb_in, eqb_out, if_true, if_false, below_suc}
use Rattle.flat.specs.Lists.{Permutes, count}
use Rattle.flat.proofs.Quantifiers.{find, Some, All}
use Rattle.flat.proofs.Counts.{count_cong, count-more, count_none}
use Rattle.flat.proofs.Permuting.{swapped, swap_second, swap-distinct, swap-below, count_permuted, count_swapped}

-- how often f is c below n
abbrev often : ℕ → (ℕ → ℕ) → ℕ → ℕ
often n f c = count n (λ i. eqb (f i) c)

-- π carries a to b
pub record Carries (n : ℕ) (a b π : ℕ → ℕ) : Type 0 where
  pub permutes : Permutes n π
  pub carried : (i : ℕ) → i < n → b (π i) ≡ a i

pub carried-often : (n : ℕ) (a b π : ℕ → ℕ) → Carries n a b π → (c : ℕ) → often n a c ≡ often n b c
carried-often n a b π h c =
    count_cong n (λ i. eqb (a i) c) (λ i. eqb (b (π i)) c) (λ i l. ap (λ (x : ℕ). eqb x c) (sym (h.carried i l)))
    ∙ count_permuted n π h.permutes (λ i. eqb (b i) c)

-- the last entry of a is that of b at q: with q and the last place exchanged, the places before the last are as they were
module _ (n : ℕ) (a b : ℕ → ℕ) (q : ℕ) (l : q < suc n) (e : b q ≡ a n) where
  abbrev turned : ℕ → ℕ
  turned i = b (swapped q n i)

  still : (c : ℕ) → often (suc n) a c ≡ often (suc n) b c → often n a c ≡ often n turned c
  unfolding count
  still c h =
      cancel (often n a c) (often n turned c) (if eqb (a n) c then 1 else 0)
      (h ∙ sym (count_swapped n q (λ i. eqb (b i) c) l)
      ∙ ap (λ (x : ℕ). often n turned c + (if eqb x c then 1 else 0)) (ap b (swap_second q n) ∙ e))
    where
      cancel : (x y z : ℕ) → x + z ≡ y + z → x ≡ y
      cancel x y z h = omega arith

  module _ (ρ : ℕ → ℕ) (h : Carries n a turned ρ) where
    -- the last place stays, and then both are exchanged
    kept : ℕ → ℕ
    kept i = if eqb i n then n else ρ i

    kept-last : (i : ℕ) → i ≡ n → kept i ≡ n
    unfolding kept
    kept-last i k = if_true (eqb i n) n (ρ i) (eqb_in k)

    kept-before : (i : ℕ) → i < n → kept i ≡ ρ i
    unfolding kept
    kept-before i m = if_false (eqb i n) n (ρ i) (λ t. omega (arith, eqb_out i n t))

    kept-permutes : Permutes (suc n) kept
    kept-permutes = record {
      below = λ i m. ⊎_elim (λ s. omega (arith, kept-before i s, h.permutes.below i s)) (λ k. omega (arith, kept-last i k)) (below_suc i n m);
      distinct = λ i j s t k. apart i j k (below_suc i n s) (below_suc j n t);
    }
      where
        apart : (i j : ℕ) → kept i ≡ kept j → (i < n) ⊎ (i ≡ n) → (j < n) ⊎ (j ≡ n) → i ≡ j
        apart i j k (inl s) (inl t) = h.permutes.distinct i j s t (sym (kept-before i s) ∙ k ∙ kept-before j t)
        apart i j k (inl s) (inr t) = absurd (omega (arith, kept-before i s, h.permutes.below i s, k, kept-last j t))
        apart i j k (inr s) (inl t) = absurd (omega (arith, kept-before j t, h.permutes.below j t, k, kept-last i s))
        apart i j k (inr s) (inr t) = s ∙ sym t

    longer : Carries (suc n) a b (λ i. swapped q n (kept i))
    longer = record {
      permutes = record {
        below = λ i m. swap-below q n (suc n) (kept i) l (omega arith) (kept-permutes.below i m);
        distinct = λ i j s t k. kept-permutes.distinct i j s t (swap-distinct q n (kept i) (kept j) k);
      };
      carried = λ i m. ⊎_elim (λ s. ap turned (kept-before i s) ∙ h.carried i s)
          (λ k. ap turned (kept-last i k) ∙ ap b (swap_second q n) ∙ e ∙ ap a (sym k)) (below_suc i n m);
    }

pub often-carried : (n : ℕ) (a b : ℕ → ℕ) → ((i : ℕ) → i < n → often n a (a i) ≡ often n b (a i)) → (π : ℕ → ℕ) × Carries n a b π
often-carried zero a b h = (
  λ i. i,
  record { permutes = record { below = λ i l. l; distinct = λ i j l m e. e }; carried = λ i l. absurd (omega arith) },
)
often-carried (suc n) a b h = go (find (suc n) (λ i. eqb (b i) (a n))) (often-carried n a)
  where
    go : Some (suc n) (λ i. T (eqb (b i) (a n))) ⊎ All (suc n) (λ i. T (eqb (b i) (a n)) → ⊥)
        → ((c : ℕ → ℕ) → ((i : ℕ) → i < n → often n a (a i) ≡ often n c (a i)) → (π : ℕ → ℕ) × Carries n a c π)
        → (π : ℕ → ℕ) × Carries (suc n) a b π
    go (inl (q, l, t)) rest =
        let e = eqb_out (b q) (a n) t in
        let (ρ, r) = rest (turned n a b q l e) (λ i m. still n a b q l e (a i) (h i (omega arith))) in
        (λ i. swapped q n (kept n a b q l e ρ r i), longer n a b q l e ρ r)
    go (inr f) rest =
        absurd
        (omega
        (arith, h n (omega arith), count_none (suc n) (λ i. eqb (b i) (a n)) f, count-more n (λ i. eqb (a i) (a n)) (eqb_in {a = a n} refl)))
