-- Rows and checks as the code makes them: disk after disk is added to a set.
-- Assumes nothing.
use mathlib.Core.Path.{◌≡◌, sym, ap, ap₂, ◌∙◌, subst}
use mathlib.Core.Bool.{Bool, true, false}
use mathlib.Core.Logic.{◌⊎◌, inl, inr}
use mathlib.Core.List.{List}
use Prim.Native.Nat.{ℕ, suc, ◌+◌, ◌-◌, ◌*◌, ◌%◌, ◌^◌, ◌≤◌, ◌<◌}
use native.Mathlib.Nat.{add-zero, lt_of_lt_of_le}
use native.Mathlib.Omega.{arith}
use borrow.Author.Tests.{lt-ltb, le-ltb, ne_eqb}
use lib.Dec.{ltb, eqb}
use lib.ListN.{length, get_or, take, get_or-eq_default}
use lib.Pow.{pow-lt, pow_mono}
use Rattle.std.specs.Prelude.{if◌then◌else◌}
use Rattle.gf2.specs.Sets.{bit, has, ◌⊕◌}
use Rattle.gf2.proofs.Bits.{ext_below, one_shifted, bit-pow, bit_above, bit-⊕_bits}
use Rattle.gf2.proofs.Made.{add_fits}
use Rattle.gf2.proofs.Tests.{below_or}
use Rattle.gf2.proofs.Xor.{⊕_lt, ⊕-zero, zero-⊕}
use Rattle.gf2.proofs.Sums.{if_has}
use Rattle.flat.specs.Lists.{set_of, tabulate, padded}
use Rattle.flat.specs.Cards.{Code, disks, column}
use Rattle.flat.specs.Checks.{row, check}
use Rattle.flat.specs.Spans.{rows, checks}
use Rattle.flat.proofs.Lists.{length-tabulate, take-padded, get_d_padded}
use Rattle.card.specs.Codes.{Legal}
use Rattle.flat.proofs.Quantifiers.{set_lt, bit-set, add_power}

module _ (C : Code) (i : ℕ) where
  -- is disk d in row i?
  unfoldable pub in_row : ℕ → Bool
  in_row d = if ltb d C.k then eqb d i else has (column C (d - C.k)) i

  pub row-start : i < C.k → 2 ^ i ≡ set_of (C.k + 0) in_row
  unfolding in_row
  row-start l =
      ext_below C.k (2 ^ i) (set_of C.k in_row) (pow-lt l) (set_lt C.k in_row)
      (λ d h. bit-pow i d ∙ (let e : ltb d C.k ≡ true = lt-ltb d C.k h in sym (bit-set C.k in_row d h ∙ rw e)))
      ∙ ap (λ (n : ℕ). set_of n in_row) (sym (add-zero C.k))

  -- one parity disk more
  pub row_more : (j r : ℕ) → r ≡ set_of (C.k + j) in_row → r + (if has (column C j) i then 2 ^ (C.k + j) else 0) ≡ set_of (C.k + (j + 1)) in_row
  unfolding set_of in_row
  row_more j r e =
      let d : C.k + j - C.k ≡ j = omega arith in
      let p : in_row (C.k + j) ≡ has (column C j) i = rw (le-ltb (C.k + j) C.k (omega arith), d) in
      let n : C.k + (j + 1) ≡ suc (C.k + j) = omega arith in
      rw (n, e, ← p)

  -- as the code tests and adds it
  module _ (j r : ℕ) (b : Bool) (e : r ≡ set_of (C.k + j) in_row) (test : b ≡ has (column C j) i) where
    pub row_with : (k : ℕ) → k ≡ C.k → k + j < 32 → b ≡ true → r + 1 * 2 ^ (k + j) % 4294967296 ≡ set_of (C.k + (j + 1)) in_row
    row_with k n l t =
        ap (λ (x : ℕ). r + x) (one_shifted (k + j) l ∙ ap (λ (x : ℕ). 2 ^ (x + j)) n)
        ∙ ap (λ (x : Bool). r + (if x then 2 ^ (C.k + j) else 0)) (sym t ∙ test) ∙ row_more j r e

    pub row_without : b ≡ false → r ≡ set_of (C.k + (j + 1)) in_row
    row_without t =
        (let z : r ≡ r + 0 = omega arith in z) ∙ ap (λ (x : Bool). r + (if x then 2 ^ (C.k + j) else 0)) (sym t ∙ test) ∙ row_more j r e

  pub row_fits : (j r k : ℕ) → k ≡ C.k → k + j < 32 → r ≡ set_of (C.k + j) in_row → r + 1 * 2 ^ (k + j) % 4294967296 < 2 ^ 32
  row_fits j r k n l e =
      rw (one_shifted (k + j) l)
      (add_fits 32 (k + j) r (subst (λ (x : ℕ). r < 2 ^ (x + j)) (sym n) (subst (λ (x : ℕ). x < 2 ^ (C.k + j)) (sym e) (set_lt (C.k + j) in_row))) l)

  pub row_end : (m : ℕ) → m ≡ C.m → set_of (C.k + m) in_row ≡ row C i
  unfolding row in_row disks
  row_end m e = rw e

-- check j is its column and its parity disk
pub check-sum : (C : Code) (j : ℕ) → j < C.m → column C j < 2 ^ C.k → column C j + 2 ^ (C.k + j) ≡ check C j
unfolding check disks
check-sum C j l h =
    add_power (k + j) c low
    ∙ ext_below (k + m) (c ⊕ 2 ^ (k + j)) (check C j)
    (⊕_lt (k + m) c (2 ^ (k + j)) (lt_of_lt_of_le h (pow_mono (let z : k ≤ k + m = omega arith in z))) (pow-lt (omega arith)))
    (set_lt (k + m) in_check)
    (λ d n. bit-⊕_bits c (2 ^ (k + j)) d ∙ ap (λ (x : ℕ). bit c d ⊕ x) (bit-pow (k + j) d) ∙ at d (below_or d k) ∙ sym (bit-set (k + m) in_check d n))
  where
    k : ℕ
    k = C.k

    m : ℕ
    m = C.m

    c : ℕ
    c = column C j

    in_check : ℕ → Bool
    in_check d = if ltb d k then has (column C j) d else eqb d (k + j)

    low : c < 2 ^ (k + j)
    low = lt_of_lt_of_le h (pow_mono (let z : k ≤ k + j = omega arith in z))

    at : (d : ℕ) → (d < k) ⊎ (k ≤ d) → bit c d ⊕ (if eqb d (k + j) then 1 else 0) ≡ (if in_check d then 1 else 0)
    at d (inl n) =
        let f : (d ≡ k + j) → ⊥ = λ e. omega arith in
        rw (lt-ltb d k n, ne_eqb d (k + j) f) (⊕-zero (bit c d) ∙ sym (if_has c d))
    at d (inr n) = rw (le-ltb d k n, bit_above k c d h n) (zero-⊕ (if eqb d (k + j) then 1 else 0))

-- as the code adds it
pub check_added : (C : Code) (j k c : ℕ) → Legal C → j < C.m → k ≡ C.k → c ≡ column C j → c + 1 * 2 ^ (k + j) % 4294967296 ≡ check C j
check_added C j k c h l n e =
    ap₂ ◌+◌ e (one_shifted (k + j) (omega arith) ∙ ap (λ (x : ℕ). 2 ^ (x + j)) n) ∙ check-sum C j l (h.5 j l)

-- a code's rows and checks are as many as its disks
module _ (C : Code) where
  pub count_rows : length (rows C) ≡ C.k
  unfolding rows
  count_rows = length-tabulate C.k (row C)

  pub count_checks : length (checks C) ≡ C.m
  unfolding checks
  count_checks = length-tabulate C.m (check C)

  pub all_rows : (n : ℕ) → n ≡ C.k → tabulate n (row C) ≡ rows C
  unfolding rows
  all_rows n e = ap (λ (i : ℕ). tabulate i (row C)) e

  pub all_checks : (n : ℕ) → n ≡ C.m → tabulate n (check C) ≡ checks C
  unfolding checks
  all_checks n e = ap (λ (i : ℕ). tabulate i (check C)) e

-- the first j of a table stand in sixteen places, and zeros after them
module _ (f : ℕ → ℕ) (j : ℕ) (out : List ℕ) (e : out ≡ padded 16 (tabulate j f)) where
  pub rest_of_table : (i : ℕ) → j ≤ i → get_or out i 0 ≡ 0
  rest_of_table i l = rw e (get_d_padded 16 i (tabulate j f) ∙ get_or-eq_default (tabulate j f) 0 (rw (length-tabulate j f) l))

  pub first_of_table : (n : ℕ) → n ≡ j → take n out ≡ tabulate j f
  first_of_table n q = rw (e, q) (take-padded 16 j (tabulate j f) (length-tabulate j f))
