-- What the disks hold is linear in the data, and so is the codeword of a data word.
-- Assumes nothing.
use mathlib.Core.Path.{◌≡◌, sym, ap, ap₂, ◌∙◌, subst}
use mathlib.Core.Logic.{◌⊎◌, inl, inr, ◌≢◌, ⊎_elim}
use Prim.Native.Nat.{ℕ, ◌+◌, ◌-◌, ◌%◌, ◌^◌, ◌<◌}
use native.Mathlib.Nat.{mod-lt, zero-mod}
use native.Mathlib.Omega.{arith}
use borrow.Author.Tests.{lt-ltb, le-ltb}
use lib.Dec.{eqb}
use lib.Pow.{pow_pos}
use Rattle.std.specs.Prelude.{if◌then◌else◌}
use Rattle.gf2.specs.Sets.{bit, ◌⊕◌, over}
use Rattle.gf2.proofs.Tests.{below_or}
use Rattle.gf2.proofs.Bits.{bit_lt, two_cases, bit-⊕_bits, bit-of-zero, bit-mod, ext_below}
use Rattle.gf2.proofs.Xor.{⊕_lt}
use Rattle.gf2.proofs.Sums.{over_cong, over-sum, over_zero, over_lt}
use Rattle.flat.specs.Cards.{Code, disks, column, data_part}
use Rattle.flat.specs.Strips.{holds}
use Rattle.flat.specs.Erasures.{holds_bit}
use Rattle.flat.specs.Spans.{codeword}
use Rattle.flat.proofs.Quantifiers.{set_lt, bit-set}

-- ---- what a disk holds, of bits and of bytes

module _ (C : Code) where
  pub holds_data : (v : ℕ → ℕ) (i : ℕ) → i < C.k → holds C v i ≡ v i
  unfolding holds
  holds_data v i l = rw (lt-ltb i C.k l)

  pub holds-parity : (v : ℕ → ℕ) (j : ℕ) → holds C v (C.k + j) ≡ over C.k (column C j) v
  unfolding holds
  holds-parity v j =
      let e : C.k + j - C.k ≡ j = omega arith in rw (le-ltb (C.k + j) C.k (omega arith), e)

  -- what holds of each data disk and of each parity disk holds of every disk
  pub by-disk : (P : ℕ → Type 0) → ((i : ℕ) → i < C.k → P i) → ((j : ℕ) → P (C.k + j)) → (i : ℕ) → P i
  by-disk P d p i = ⊎_elim (d i) (λ l. let e : C.k + (i - C.k) ≡ i = omega arith in subst P e (p (i - C.k))) (below_or i C.k)

  -- only the data disks matter
  pub holds_cong : (v w : ℕ → ℕ) (i : ℕ) → ((d : ℕ) → d < C.k → v d ≡ w d) → holds C v i ≡ holds C w i
  holds_cong v w i e =
      by-disk (λ i. holds C v i ≡ holds C w i) (λ i l. holds_data v i l ∙ e i l ∙ sym (holds_data w i l))
      (λ j. holds-parity v j ∙ over_cong C.k (column C j) v w (λ d l t. e d l) ∙ sym (holds-parity w j)) i

  pub holds-⊕ : (v w : ℕ → ℕ) (i : ℕ) → holds C (λ d. v d ⊕ w d) i ≡ holds C v i ⊕ holds C w i
  holds-⊕ v w =
      by-disk (λ i. holds C (λ d. v d ⊕ w d) i ≡ holds C v i ⊕ holds C w i)
      (λ i l. holds_data (λ d. v d ⊕ w d) i l ∙ sym (ap₂ (λ (a b : ℕ). a ⊕ b) (holds_data v i l) (holds_data w i l)))
      (λ j. holds-parity (λ d. v d ⊕ w d) j ∙ over-sum C.k (column C j) v w
      ∙ sym (ap₂ (λ (a b : ℕ). a ⊕ b) (holds-parity v j) (holds-parity w j)))

  pub holds-zero : (i : ℕ) → holds C (λ d. 0) i ≡ 0
  holds-zero =
      by-disk (λ i. holds C (λ d. 0) i ≡ 0) (holds_data (λ d. 0)) (λ j. holds-parity (λ d. 0) j ∙ over_zero C.k (column C j))

  pub holds_lt : (w : ℕ) (v : ℕ → ℕ) (i : ℕ) → ((d : ℕ) → v d < 2 ^ w) → holds C v i < 2 ^ w
  holds_lt w v i h =
      by-disk (λ i. holds C v i < 2 ^ w) (λ i l. subst (λ (x : ℕ). x < 2 ^ w) (sym (holds_data v i l)) (h i))
      (λ j. subst (λ (x : ℕ). x < 2 ^ w) (sym (holds-parity v j)) (over_lt w C.k (column C j) v (λ d l t. h d))) i

  -- ---- of a data word

  pub word_lt : (x i : ℕ) → holds_bit C x i < 2
  unfolding holds_bit
  word_lt x i = holds_lt 1 (bit x) i (bit_lt x)

  pub word-⊕ : (x y i : ℕ) → holds_bit C (x ⊕ y) i ≡ holds_bit C x i ⊕ holds_bit C y i
  unfolding holds_bit
  word-⊕ x y i = holds_cong (bit (x ⊕ y)) (λ d. bit x d ⊕ bit y d) i (λ d l. bit-⊕_bits x y d) ∙ holds-⊕ (bit x) (bit y) i

  pub word-zero : (i : ℕ) → holds_bit C 0 i ≡ 0
  unfolding holds_bit
  word-zero i = holds_cong (bit 0) (λ d. 0) i (λ d l. bit-of-zero d) ∙ holds-zero i

  pub word_data : (x i : ℕ) → i < C.k → holds_bit C x i ≡ bit x i
  unfolding holds_bit
  word_data x i l = holds_data (bit x) i l

  -- ---- its codeword

  pub codeword_lt : (x : ℕ) → codeword C x < 2 ^ disks C
  unfolding codeword
  codeword_lt x = set_lt (disks C) (λ i. eqb (holds_bit C x i) 1)

  pub codeword-bit : (x i : ℕ) → i < disks C → bit (codeword C x) i ≡ holds_bit C x i
  unfolding codeword
  codeword-bit x i l = bit-set (disks C) (λ j. eqb (holds_bit C x j) 1) i l ∙ go (two_cases (holds_bit C x i) (word_lt x i))
    where
      go : (holds_bit C x i ≡ 0) ⊎ (holds_bit C x i ≡ 1) → (if eqb (holds_bit C x i) 1 then 1 else 0) ≡ holds_bit C x i
      go (inl e) = rw e
      go (inr e) = rw e

  pub codeword-⊕ : (x y : ℕ) → codeword C (x ⊕ y) ≡ codeword C x ⊕ codeword C y
  codeword-⊕ x y =
      ext_below (disks C) (codeword C (x ⊕ y)) (codeword C x ⊕ codeword C y) (codeword_lt (x ⊕ y))
      (⊕_lt (disks C) (codeword C x) (codeword C y) (codeword_lt x) (codeword_lt y))
      (λ i l. codeword-bit (x ⊕ y) i l ∙ word-⊕ x y i ∙ ap₂ (λ (a b : ℕ). a ⊕ b) (sym (codeword-bit x i l)) (sym (codeword-bit y i l))
      ∙ sym (bit-⊕_bits (codeword C x) (codeword C y) i))

  pub codeword-zero : codeword C 0 ≡ 0
  codeword-zero =
      ext_below (disks C) (codeword C 0) 0 (codeword_lt 0) (pow_pos (disks C)) (λ i l. codeword-bit 0 i l ∙ word-zero i ∙ sym (bit-of-zero i))

-- ---- data parts

-- a codeword's data part is its data word
pub codeword_data : (C : Code) (x : ℕ) → x < 2 ^ C.k → data_part C (codeword C x) ≡ x
unfolding data_part disks
codeword_data C x l =
    ext_below C.k (codeword C x % 2 ^ C.k) x (mod-lt (codeword C x) (pow_pos C.k)) l
    (λ i h. bit-mod C.k (codeword C x) i h ∙ codeword-bit C x i (omega arith) ∙ word_data C x i h)

pub codeword-nonzero : (C : Code) (x : ℕ) → x < 2 ^ C.k → x ≢ 0 → codeword C x ≢ 0
unfolding data_part
codeword-nonzero C x l f e = f (sym (codeword_data C x l) ∙ ap (data_part C) e ∙ zero-mod (2 ^ C.k))
