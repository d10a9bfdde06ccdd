-- XOR is a group in which each number is its own inverse.
-- Assumes nothing.
use mathlib.Core.Path.{◌≡◌, refl, sym, ap, ◌∙◌}
use mathlib.Core.Bool.{Bool, true, false}
use Prim.Native.Nat.{ℕ, ◌+◌, ◌%◌, ◌^◌, ◌<◌}
use native.Mathlib.Nat.{mod-add-mod, add-mod-mod, add_assoc}
use lib.Bits.{xor_zero_l, xor_zero_r, xor_self, xor_comm, xor_lt}
use Rattle.std.specs.Prelude.{if◌then◌else◌}
use Rattle.gf2.specs.Sets.{bit, ◌⊕◌}
use Rattle.gf2.proofs.Bits.{bit-⊕, ext}

odd_assoc : (p q r : ℕ) → ((p + q) % 2 + r) % 2 ≡ (p + (q + r) % 2) % 2
odd_assoc p q r = mod-add-mod (p + q) 2 r ∙ ap (λ (x : ℕ). x % 2) (add_assoc p q r) ∙ sym (add-mod-mod p (q + r) 2)

-- bit by bit
pub ⊕_assoc : (a b c : ℕ) → a ⊕ b ⊕ c ≡ a ⊕ (b ⊕ c)
⊕_assoc a b c =
    ext (a ⊕ b ⊕ c) (a ⊕ (b ⊕ c))
    (λ i. bit-⊕ (a ⊕ b) c i ∙ ap (λ (x : ℕ). (x + bit c i) % 2) (bit-⊕ a b i) ∙ odd_assoc (bit a i) (bit b i) (bit c i)
    ∙ ap (λ (x : ℕ). (bit a i + x) % 2) (sym (bit-⊕ b c i)) ∙ sym (bit-⊕ a (b ⊕ c) i))

pub ⊕_comm : (a b : ℕ) → a ⊕ b ≡ b ⊕ a
unfolding ◌⊕◌
⊕_comm = xor_comm

pub ⊕_self : (a : ℕ) → a ⊕ a ≡ 0
unfolding ◌⊕◌
⊕_self = xor_self

pub zero-⊕ : (a : ℕ) → 0 ⊕ a ≡ a
unfolding ◌⊕◌
zero-⊕ = xor_zero_l

pub ⊕-zero : (a : ℕ) → a ⊕ 0 ≡ a
unfolding ◌⊕◌
⊕-zero = xor_zero_r

-- what is added twice is gone
pub ⊕-back : (a b : ℕ) → a ⊕ (a ⊕ b) ≡ b
⊕-back a b = sym (⊕_assoc a a b) ∙ ap (λ (x : ℕ). x ⊕ b) (⊕_self a) ∙ zero-⊕ b

pub ⊕-swap : (a b c : ℕ) → a ⊕ (b ⊕ c) ≡ b ⊕ (a ⊕ c)
⊕-swap a b c = sym (⊕_assoc a b c) ∙ ap (λ (x : ℕ). x ⊕ c) (⊕_comm a b) ∙ ⊕_assoc b a c

pub ⊕_cancel : (a b : ℕ) → a ⊕ b ≡ 0 → a ≡ b
⊕_cancel a b e = sym (⊕-zero a) ∙ ap (λ (x : ℕ). a ⊕ x) (sym e) ∙ ⊕-back a b

-- two sums, added part by part
pub ⊕_four : (a b c d : ℕ) → a ⊕ b ⊕ (c ⊕ d) ≡ a ⊕ c ⊕ (b ⊕ d)
⊕_four a b c d = ⊕_assoc a b (c ⊕ d) ∙ ap (λ (x : ℕ). a ⊕ x) (⊕-swap b c d) ∙ sym (⊕_assoc a c (b ⊕ d))

-- what is XORed in or not
pub ⊕_if : (b : Bool) (x y : ℕ) → x ⊕ (if b then y else 0) ≡ (if b then x ⊕ y else x)
⊕_if true x y = refl
⊕_if false x y = ⊕-zero x

pub ⊕_lt : (k a b : ℕ) → a < 2 ^ k → b < 2 ^ k → a ⊕ b < 2 ^ k
unfolding ◌⊕◌
⊕_lt = xor_lt
