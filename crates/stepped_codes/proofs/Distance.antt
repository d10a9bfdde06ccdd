-- The code in which data disk i goes into the parity disks of a given set f i: the size of its codewords, and its distance.
-- Assumes nothing.
use mathlib.Core.Path.{◌≡◌, sym, ap, ap₂, ◌∙◌, subst}
use mathlib.Core.Logic.{◌⊎◌, inl, inr, ◌≢◌}
use Prim.Native.Nat.{ℕ, ◌+◌, ◌*◌, ◌/◌, ◌%◌, ◌^◌, ◌≤◌, ◌<◌}
use native.Mathlib.Omega.{arith}
use lib.Count.{ones, ones_cat}
use lib.Dec.{T, eqb}
use lib.Pow.{split, shr_lt}
use Rattle.gf2.specs.Sets.{bit, has, size, ◌⊕◌, ◌∖◌, over}
use Rattle.gf2.specs.Within.{lowest}
use Rattle.gf2.proofs.Tests.{dec, eqb_in, eqb_out}
use Rattle.gf2.proofs.Bits.{bit_shift, ext_below}
use Rattle.gf2.proofs.Xor.{⊕_cancel, zero-⊕}
use Rattle.gf2.proofs.Subsets.{∖_out, ∖_le, power_in, lowest-has, lowest_lt}
use Rattle.gf2.proofs.Sizes.{size_less, size_pos, size-⊆}
use Rattle.gf2.proofs.Sums.{over_cong, over_none, over-bit, over_lt, over_comm, over-without, if_has}
use Rattle.flat.specs.Lists.{set_of, tabulate}
use Rattle.flat.specs.Cards.{Code, code, disks, column, data_part}
use Rattle.flat.specs.Erasures.{holds_bit, fatal}
use Rattle.flat.specs.Spans.{codeword}
use Rattle.flat.proofs.Lists.{get_d_tabulate}
use Rattle.flat.proofs.Counts.{size-count, over_odd}
use Rattle.flat.proofs.Quantifiers.{bit-set}
use Rattle.flat.proofs.Words.{holds-parity, codeword_lt, codeword-bit, codeword_data}
use Rattle.flat.proofs.Fatal.{fatal_out}

module _ (m k : ℕ) (f : ℕ → ℕ) (low : (i : ℕ) → i < k → f i < 2 ^ m) where
  abbrev column_of : ℕ → ℕ
  column_of j = set_of k (λ i. has (f i) j)

  abbrev pub from_sets : Code
  from_sets = code k m (tabulate m column_of)

  -- what parity disk k + j holds
  parity-bit : (x j : ℕ) → j < m → holds_bit from_sets x (k + j) ≡ bit (over k x f) j
  unfolding holds_bit column
  parity-bit x j l =
      holds-parity from_sets (bit x) j ∙ ap (λ (c : ℕ). over k c (bit x)) (get_d_tabulate m column_of j l) ∙ over_comm k (column_of j) x
      ∙ over_cong k x (bit (column_of j)) (λ i. bit (f i) j) (λ i h t. bit-set k (λ e. has (f e) j) i h ∙ if_has (f i) j)
      ∙ sym (over-bit k x f j)

  codeword_high : (x : ℕ) → codeword from_sets x / 2 ^ k ≡ over k x f
  unfolding disks
  codeword_high x =
      let e : k + m ≡ m + k = omega arith in
      ext_below m (codeword from_sets x / 2 ^ k) (over k x f)
      (shr_lt m k (subst (λ (n : ℕ). codeword from_sets x < 2 ^ n) e (codeword_lt from_sets x)))
      (over_lt m k x f (λ i l t. low i l))
      (λ j l. bit_shift k (codeword from_sets x) j ∙ codeword-bit from_sets x (k + j) (omega arith) ∙ parity-bit x j l)

  -- its own disks, and those of the XOR of their sets
  pub codeword-size : (x : ℕ) → x < 2 ^ k → size (codeword from_sets x) ≡ size x + size (over k x f)
  unfolding size data_part
  codeword-size x l =
      let w = codeword from_sets x in
      ap ones (sym (split w k) ∙ ap₂ (λ (a b : ℕ). a * 2 ^ k + b) (codeword_high x) (codeword_data from_sets x l))
      ∙ ones_cat k (over k x f) x l
      ∙ (let e : ones (over k x f) + ones x ≡ ones x + ones (over k x f) = omega arith in e)

  -- ---- distance

  -- the lowest disk of x, and the rest
  over-low : (x : ℕ) → x ≢ 0 → x < 2 ^ k → over k x f ≡ over k (x ∖ 2 ^ lowest x) f ⊕ f (lowest x)
  over-low x g l = over-without k x (lowest x) f (lowest_lt k x g l) (lowest-has x g)

  -- sets of two and more disks, each another: no codeword but 0 is smaller than 3
  pub three : ((i : ℕ) → i < k → 2 ≤ size (f i)) → ((i j : ℕ) → i < k → j < k → i ≢ j → f i ≢ f j)
      → (x : ℕ) → x < 2 ^ k → x ≢ 0 → 3 ≤ size x + size (over k x f)
  three two apart x l g = first (dec (eqb x' 0))
    where
      i : ℕ
      i = lowest x

      x' : ℕ
      x' = x ∖ 2 ^ i

      j : ℕ
      j = lowest x'

      i_lt : i < k
      i_lt = lowest_lt k x g l

      counted : size x' + 1 ≡ size x
      counted = size_less x i (lowest-has x g)

      -- f i and f j
      pair : x' ≢ 0 → x' ∖ 2 ^ j ≡ 0 → 1 ≤ size (over k x f)
      pair h e =
          let l' : x' < 2 ^ k = omega (arith, ∖_le x (2 ^ i)) in
          let is : over k x f ≡ f j ⊕ f i =
          over-low x g l ∙ ap (λ (y : ℕ). y ⊕ f i) (over-low x' h l' ∙ ap (λ (y : ℕ). over k y f ⊕ f j) e ∙ ap (λ (y : ℕ). y ⊕ f j) (over_none k f) ∙ zero-⊕ (f j)) in
          let other : j ≢ i = λ q. (∖_out x (2 ^ i) j (lowest-has x' h)).1 (subst (λ (y : ℕ). T (has (2 ^ i) y)) (sym q) (power_in i)) in
          rw is (size_pos (f j ⊕ f i) (λ z. apart j i (lowest_lt k x' h l') i_lt other (⊕_cancel (f j) (f i) z)))

      second : x' ≢ 0 → T (eqb (x' ∖ 2 ^ j) 0) ⊎ (T (eqb (x' ∖ 2 ^ j) 0) → ⊥) → 3 ≤ size x + size (over k x f)
      second h (inl t) =
          omega (arith, counted, size_less x' j (lowest-has x' h), pair h (eqb_out (x' ∖ 2 ^ j) 0 t))
      second h (inr n) =
          omega (arith, counted, size_less x' j (lowest-has x' h), size_pos (x' ∖ 2 ^ j) (λ e. n (eqb_in e)))

      first : T (eqb x' 0) ⊎ (T (eqb x' 0) → ⊥) → 3 ≤ size x + size (over k x f)
      first (inl t) =
          let is : over k x f ≡ f i =
          over-low x g l ∙ ap (λ (y : ℕ). over k y f ⊕ f i) (eqb_out x' 0 t) ∙ ap (λ (y : ℕ). y ⊕ f i) (over_none k f) ∙ zero-⊕ (f i) in
          rw is (omega (arith, counted, two i i_lt))
      first (inr n) = second (λ e. n (eqb_in e)) (dec (eqb (x' ∖ 2 ^ j) 0))

  -- of odd sizes: none is smaller than 4
  pub four : ((i : ℕ) → i < k → 2 ≤ size (f i)) → ((i : ℕ) → i < k → size (f i) % 2 ≡ 1) → ((i j : ℕ) → i < k → j < k → i ≢ j → f i ≢ f j)
      → (x : ℕ) → x < 2 ^ k → x ≢ 0 → 4 ≤ size x + size (over k x f)
  four two odd apart x l g =
      omega (arith, three two apart x l g, over_odd k x f odd, size-count k x l)

  -- a fatal set is at least as large as the smallest codeword but 0
  pub fatal-size : (d S : ℕ) → ((x : ℕ) → x < 2 ^ k → x ≢ 0 → d ≤ size x + size (over k x f)) → T (fatal from_sets S) → d ≤ size S
  fatal-size d S h t =
      let r = fatal_out from_sets S t in
      omega (arith, h r.0 r.1 r.2, codeword-size r.0 r.1, size-⊆ (codeword from_sets r.0) S r.3)
