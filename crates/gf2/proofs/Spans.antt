-- A span holds 0, its rows, and the XOR of any two of its words.
-- Assumes nothing.
use mathlib.Core.Path.{◌≡◌, refl, sym, ap, ap₂, ◌∙◌, subst}
use mathlib.Core.Logic.{inl, inr}
use mathlib.Core.List.{List, [], ◌∷◌}
use Prim.Native.Nat.{ℕ}
use Rattle.gf2.specs.Sets.{◌⊕◌}
use Rattle.gf2.specs.Span.{InSpan}
use Rattle.gf2.proofs.Xor.{⊕_assoc, ⊕_self, ⊕-swap, ⊕-back}

-- the same word, written in another way
pub at : (bs : List ℕ) {x y : ℕ} → x ≡ y → InSpan bs x → InSpan bs y
at bs e h = subst (λ (x : ℕ). InSpan bs x) e h

pub zero_in : (bs : List ℕ) → InSpan bs 0
zero_in [] = refl
zero_in (b ∷ bs) = inl (zero_in bs)

pub first_in : (b : ℕ) (bs : List ℕ) → InSpan (b ∷ bs) b
first_in b bs = inr (at bs (sym (⊕_self b)) (zero_in bs))

-- (b ⊕ x) ⊕ (b ⊕ y) is x ⊕ y
pair_off : (b x y : ℕ) → b ⊕ x ⊕ (b ⊕ y) ≡ x ⊕ y
pair_off b x y = ⊕-swap (b ⊕ x) b y ∙ ap (λ (z : ℕ). b ⊕ z) (⊕_assoc b x y) ∙ ⊕-back b (x ⊕ y)

pub sum_in : (bs : List ℕ) (x y : ℕ) → InSpan bs x → InSpan bs y → InSpan bs (x ⊕ y)
sum_in [] x y p q = ap₂ (λ (a b : ℕ). a ⊕ b) p q ∙ ⊕_self 0
sum_in (b ∷ bs) x y (inl p) (inl q) = inl (sum_in bs x y p q)
sum_in (b ∷ bs) x y (inl p) (inr q) = inr (at bs (⊕-swap x b y) (sum_in bs x (b ⊕ y) p q))
sum_in (b ∷ bs) x y (inr p) (inl q) = inr (at bs (⊕_assoc b x y) (sum_in bs (b ⊕ x) y p q))
sum_in (b ∷ bs) x y (inr p) (inr q) = inl (at bs (pair_off b x y) (sum_in bs (b ⊕ x) (b ⊕ y) p q))
