-- Functionals on data words: the XOR of the bits of a word that a set names. One of them is a sum of given others, or some word is 0
-- under all of these and 1 under it.
-- Assumes nothing.
use mathlib.Core.Path.{◌≡◌, sym, ap, ap₂, ◌∙◌}
use mathlib.Core.Logic.{◌⊎◌, inl, inr}
use Prim.Native.Nat.{ℕ, zero, suc, ◌^◌, ◌<◌}
use native.Mathlib.Omega.{arith}
use native.Mathlib.Nat.{not-suc-le-zero}
use lib.Dec.{T}
use lib.Pow.{pow_pos, pow-lt}
use Rattle.gf2.specs.Sets.{bit, has, ◌⊕◌, over}
use Rattle.gf2.specs.Span.{InSpan}
use Rattle.gf2.proofs.Bits.{bit_lt, two_cases, bit-⊕_bits, bit-of-zero, ext_below, has_out, has-not}
use Rattle.gf2.proofs.Xor.{⊕_lt, ⊕_self, ⊕-zero, zero-⊕, ⊕-back}
use Rattle.gf2.proofs.Sums.{over_cong, over-⊕, over-sum, over_lt, over_power}
use Rattle.flat.specs.Lists.{tabulate}
use Rattle.flat.proofs.Quantifiers.{find, Some, All}

-- the XOR of the bits of x that f names
abbrev pub dot : ℕ → ℕ → ℕ → ℕ
dot k f x = over k f (bit x)

pub dot_lt : (k f x : ℕ) → dot k f x < 2
dot_lt k f x = over_lt 1 k f (bit x) (λ i l t. bit_lt x i)

pub dot-⊕ : (k f x y : ℕ) → dot k f (x ⊕ y) ≡ dot k f x ⊕ dot k f y
dot-⊕ k f x y = over_cong k f (bit (x ⊕ y)) (λ i. bit x i ⊕ bit y i) (λ i l t. bit-⊕_bits x y i) ∙ over-sum k f (bit x) (bit y)

-- some word is 0 under f 0, .., f (n - 1), and 1 under g
pub record Apart (k n : ℕ) (f : ℕ → ℕ) (g : ℕ) : Type 0 where
  pub word : ℕ
  pub below : word < 2 ^ k
  pub zeros : (i : ℕ) → i < n → dot k (f i) word ≡ 0
  pub one : dot k g word ≡ 1

-- with f 0 at the front
apart_cons : (k n : ℕ) (f : ℕ → ℕ) (g x : ℕ) → x < 2 ^ k → dot k (f 0) x ≡ 0 → ((i : ℕ) → i < n → dot k (f (suc i)) x ≡ 0) → dot k g x ≡ 1
    → Apart k (suc n) f g
apart_cons k n f g x l e h o = record { word = x; below = l; zeros = all; one = o }
  where
    all : (i : ℕ) → i < suc n → dot k (f i) x ≡ 0
    all zero m = e
    all (suc i) m = h i (omega arith)

pub separate : (k n : ℕ) (f : ℕ → ℕ) (g : ℕ) → ((i : ℕ) → i < n → f i < 2 ^ k) → g < 2 ^ k → InSpan (tabulate n f) g ⊎ Apart k n f g
unfolding tabulate
separate k zero f g b l = go (find k (has g))
  where
    go : Some k (λ j. T (has g j)) ⊎ All k (λ j. T (has g j) → ⊥) → (g ≡ 0) ⊎ Apart k 0 f g
    go (inl (j, m, t)) =
        inr (record { word = 2 ^ j; below = pow-lt m; zeros = λ i h. absurd (not-suc-le-zero h); one = over_power k g j m ∙ has_out g j t })
    go (inr none) = inl (ext_below k g 0 l (pow_pos k) (λ i m. has-not g i (none i m) ∙ sym (bit-of-zero i)))
separate k (suc n) f g b l =
    first (separate k n (λ i. f (suc i)) g (λ i m. b (suc i) (omega arith)) l)
    (separate k n (λ i. f (suc i)) (f 0 ⊕ g) (λ i m. b (suc i) (omega arith)) (⊕_lt k (f 0) g (b 0 (omega arith)) l))
  where
    rest : ℕ → ℕ
    rest i = f (suc i)

    third : (a : Apart k n rest g) → dot k (f 0) a.word ≡ 1 → (c : Apart k n rest (f 0 ⊕ g)) → (dot k (f 0) c.word ≡ 0) ⊎ (dot k (f 0) c.word ≡ 1)
        → Apart k (suc n) f g
    third a p c (inl e) =
        apart_cons k n f g c.word c.below e c.zeros
        (sym (zero-⊕ (dot k g c.word)) ∙ ap (λ (v : ℕ). v ⊕ dot k g c.word) (sym e) ∙ sym (over-⊕ k (f 0) g (bit c.word)) ∙ c.one)
    third a p c (inr e) =
        let z : dot k g c.word ≡ 0 =
        sym (⊕-back (dot k (f 0) c.word) (dot k g c.word))
        ∙ ap₂ (λ (u v : ℕ). u ⊕ v) e (sym (over-⊕ k (f 0) g (bit c.word)) ∙ c.one) ∙ ⊕_self 1 in
        apart_cons k n f g (a.word ⊕ c.word) (⊕_lt k a.word c.word a.below c.below)
        (dot-⊕ k (f 0) a.word c.word ∙ ap₂ (λ (u v : ℕ). u ⊕ v) p e ∙ ⊕_self 1)
        (λ i m. dot-⊕ k (rest i) a.word c.word ∙ ap₂ (λ (u v : ℕ). u ⊕ v) (a.zeros i m) (c.zeros i m) ∙ ⊕_self 0)
        (dot-⊕ k g a.word c.word ∙ ap₂ (λ (u v : ℕ). u ⊕ v) a.one z ∙ ⊕-zero 1)

    second : (a : Apart k n rest g) → (dot k (f 0) a.word ≡ 0) ⊎ (dot k (f 0) a.word ≡ 1) → InSpan (tabulate n rest) (f 0 ⊕ g) ⊎ Apart k n rest (f 0 ⊕ g)
        → InSpan (tabulate (suc n) f) g ⊎ Apart k (suc n) f g
    second a (inl e) r = inr (apart_cons k n f g a.word a.below e a.zeros a.one)
    second a (inr e) (inl s) = inl (inr s)
    second a (inr e) (inr c) = inr (third a e c (two_cases (dot k (f 0) c.word) (dot_lt k (f 0) c.word)))

    first : InSpan (tabulate n rest) g ⊎ Apart k n rest g → InSpan (tabulate n rest) (f 0 ⊕ g) ⊎ Apart k n rest (f 0 ⊕ g)
        → InSpan (tabulate (suc n) f) g ⊎ Apart k (suc n) f g
    first (inl s) r = inl (inl s)
    first (inr a) r = second a (two_cases (dot k (f 0) a.word) (dot_lt k (f 0) a.word)) r
