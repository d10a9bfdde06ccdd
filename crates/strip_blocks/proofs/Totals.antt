-- Laws of the XOR of a table's entries.
-- Assumes nothing.
use mathlib.Core.Path.{◌≡◌, refl, ap₂, ◌∙◌}
use Prim.Native.Nat.{ℕ, zero, suc, ◌<◌}
use native.Mathlib.Omega.{arith}
use Rattle.gf2.specs.Sets.{◌⊕◌}
use Rattle.gf2.proofs.Xor.{⊕-zero, ⊕_four}
use Rattle.strip_blocks.specs.Totals.{total}

pub total_cong : (n : ℕ) (f g : ℕ → ℕ) → ((j : ℕ) → j < n → f j ≡ g j) → total n f ≡ total n g
unfolding total
total_cong zero f g h = refl
total_cong (suc n) f g h = ap₂ ◌⊕◌ (total_cong n f g (λ j l. h j (omega arith))) (h n (omega arith))

pub total-⊕ : (n : ℕ) (f g : ℕ → ℕ) → total n f ⊕ total n g ≡ total n (λ j. f j ⊕ g j)
unfolding total
total-⊕ zero f g = ⊕-zero 0
total-⊕ (suc n) f g = ⊕_four (total n f) (f n) (total n g) (g n) ∙ ap₂ ◌⊕◌ (total-⊕ n f g) refl

pub total-zero : (n : ℕ) (f : ℕ → ℕ) → ((j : ℕ) → j < n → f j ≡ 0) → total n f ≡ 0
unfolding total
total-zero zero f h = refl
total-zero (suc n) f h = ap₂ ◌⊕◌ (total-zero n f (λ j l. h j (omega arith))) (h n (omega arith)) ∙ ⊕-zero 0
