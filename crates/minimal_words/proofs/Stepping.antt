-- From one number to the next: the words that two numbers in a row select differ by the XOR of the rows up to the later number's lowest.
-- Assumes nothing.
use mathlib.Core.Path.{◌≡◌, sym, ap, ap₂, ◌∙◌, subst}
use mathlib.Core.Logic.{◌⊎◌, inl, inr, ◌≢◌}
use mathlib.Core.List.{List, ◌∷◌, ◌++◌}
use Prim.Native.Nat.{ℕ, zero, suc, ◌+◌, ◌-◌, ◌*◌, ◌/◌, ◌%◌, ◌^◌, ◌<◌}
use native.Mathlib.Nat.{mod-lt, zero-lt-suc, sub_self}
use native.Mathlib.Numerals.{add-one}
use native.Mathlib.Omega.{arith}
use lib.Bits.{bit_xor, xor_step, xor_self, xor_shifted}
use lib.Count.{count_trailing_zeros}
use lib.ListN.{length, get_or, set, drop}
use lib.Seq.{drop-cons, append_snoc}
use lib.Pow.{pow_pos}
use Rattle.gf2.specs.Sets.{◌⊕◌}
use Rattle.gf2.specs.Span.{select}
use Rattle.gf2.specs.Within.{lowest}
use Rattle.gf2.proofs.Bits.{two_cases, half_lt, lt_pow}
use Rattle.gf2.proofs.Xor.{⊕_comm, ⊕-back}
use Rattle.gf2.proofs.Subsets.{lowest_trailing, lowest_lt}
use Rattle.gf2.proofs.Sums.{over_none, over-disk, select-⊕}
use Rattle.flat.specs.Lists.{tabulate}
use Rattle.flat.proofs.Lists.{length-tabulate, get_d_tabulate, tabulate-more}
use Rattle.std.proofs.lemmas.List.{get_or-append_right, set-append_right}
use Rattle.minimal_words.specs.Listed.{step_of}

-- x and the number before it differ in the bits up to the lowest of x
trailing_change : (k x : ℕ) → x ≢ 0 → x < 2 ^ k → bit_xor x (x - 1) + 1 ≡ 2 ^ suc (count_trailing_zeros k x)
unfolding count_trailing_zeros
trailing_change zero x f h = absurd (f (omega arith))
trailing_change (suc k) x f h = go (λ g. trailing_change k (x / 2) g (half_lt k x h)) (two_cases (x % 2) (mod-lt x (zero-lt-suc 1)))
  where
    go : (x / 2 ≢ 0 → bit_xor (x / 2) (x / 2 - 1) + 1 ≡ 2 ^ suc (count_trailing_zeros k (x / 2))) → (x % 2 ≡ 0) ⊎ (x % 2 ≡ 1)
        → bit_xor x (x - 1) + 1 ≡ 2 ^ suc (count_trailing_zeros (suc k) x)
    go ih (inl e) =
        let q : (x - 1) / 2 ≡ x / 2 - 1 = omega arith in
        let r : (x - 1) % 2 ≡ 1 = omega arith in
        let n : x / 2 ≢ 0 = λ z. f (omega arith) in
        let s : bit_xor x (x - 1) ≡ bit_xor (x / 2) (x / 2 - 1) * 2 + 1 = rw (xor_step x (x - 1), q, e, r) in
        rw e (omega (arith, ih n))
    go ih (inr e) =
        let q : (x - 1) / 2 ≡ x / 2 = omega arith in
        let r : (x - 1) % 2 ≡ 0 = omega arith in
        let s : bit_xor x (x - 1) ≡ 1 = rw (xor_step x (x - 1), q, e, r, xor_self (x / 2)) in
        rw e (omega arith)

change : (x : ℕ) → x ≢ 0 → x ⊕ (x - 1) ≡ 2 ^ (lowest x + 1) - 1
unfolding ◌⊕◌
change x f =
    let e : (x ⊕ (x - 1)) + 1 ≡ 2 ^ (lowest x + 1) =
    trailing_change x x f (lt_pow x) ∙ ap (λ (t : ℕ). 2 ^ suc t) (lowest_trailing x x f (lt_pow x)) ∙ ap (λ (t : ℕ). 2 ^ t) (sym (add-one (lowest x))) in
    omega arith

-- the word of the number before 1, and from a number's word to the next
pub word_none : (rows : List ℕ) → 0 ≡ select rows (1 - 1)
unfolding select
word_none rows = sym (over_none (length rows) (λ i. get_or rows i 0))

pub word_next : (rows steps : List ℕ) (x i w : ℕ) → x ≢ 0 → x < 2 ^ 16 → i ≡ lowest x → steps ≡ tabulate 16 (step_of rows) → w ≡ select rows (x - 1)
    → bit_xor w (get_or steps i 0) ≡ select rows x
unfolding ◌⊕◌ step_of
word_next rows steps x i w f h e s q =
    let l : i < 16 = subst (λ (y : ℕ). y < 16) (sym e) (lowest_lt 16 x f h) in
    ap₂ bit_xor q (ap (λ (l : List ℕ). get_or l i 0) s ∙ get_d_tabulate 16 (step_of rows) i l ∙ ap (step_of rows) e ∙ ap (select rows) (sym (change x f)))
    ∙ sym (select-⊕ rows (x - 1) (x ⊕ (x - 1))) ∙ ap (select rows) (ap (λ (y : ℕ). (x - 1) ⊕ y) (⊕_comm x (x - 1)) ∙ ⊕-back (x - 1) x)

-- the XOR of the rows before t, and with row t
pub steps-none : (rows : List ℕ) → 0 ≡ select rows (2 ^ 0 - 1)
steps-none = word_none

pub step-next : (rows : List ℕ) (t sum : ℕ) → t < length rows → sum ≡ select rows (2 ^ t - 1) → bit_xor sum (get_or rows t 0) ≡ step_of rows t
unfolding ◌⊕◌ step_of select
step-next rows t sum l e =
    let p = pow_pos t in
    let low : bit_xor (1 * 2 ^ t) (2 ^ t - 1) ≡ 1 * 2 ^ t + (2 ^ t - 1) = xor_shifted 1 t (2 ^ t - 1) (omega arith) in
    let one : 1 * 2 ^ t ≡ 2 ^ t = omega arith in
    let two : 2 ^ (t + 1) ≡ 2 ^ suc t = ap (λ (i : ℕ). 2 ^ i) (add-one t) in
    let all : 2 ^ t ⊕ (2 ^ t - 1) ≡ 2 ^ (t + 1) - 1 = ap (λ (x : ℕ). bit_xor x (2 ^ t - 1)) (sym one) ∙ low ∙ omega arith in
    ap₂ bit_xor e (sym (over-disk (length rows) t (λ i. get_or rows i 0) l)) ∙ ⊕_comm (select rows (2 ^ t - 1)) (select rows (2 ^ t))
    ∙ sym (select-⊕ rows (2 ^ t) (2 ^ t - 1)) ∙ ap (select rows) all

-- rows that are gone through in place, where f of the places before i stands in them: the next, and the same of one more
module _ (f : ℕ → ℕ) (rows ys : List ℕ) (i : ℕ) (h : i < length rows) (e : ys ≡ tabulate i f ++ drop i rows) where
  pub place-next : get_or ys i 0 ≡ get_or rows i 0
  place-next =
      ap (λ (l : List ℕ). get_or l i 0) (e ∙ ap (λ (l : List ℕ). tabulate i f ++ l) (drop-cons rows i 0 h))
      ∙ get_or-append_right (tabulate i f) (get_or rows i 0 ∷ drop (suc i) rows) i i 0 (length-tabulate i f) (omega arith)
      ∙ rw sub_self

  pub place_more : (v : ℕ) → v ≡ f i → set ys i v ≡ tabulate (i + 1) f ++ drop (i + 1) rows
  place_more v q =
      rw (add-one, tabulate-more, append_snoc)
      (ap (λ (l : List ℕ). set l i v) (e ∙ ap (λ (l : List ℕ). tabulate i f ++ l) (drop-cons rows i 0 h))
      ∙ set-append_right (tabulate i f) (get_or rows i 0 ∷ drop (suc i) rows) i i v (length-tabulate i f) (omega arith)
      ∙ rw (sub_self, q))
