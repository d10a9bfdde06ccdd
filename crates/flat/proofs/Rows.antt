-- The rows span the codewords, the checks span the sets whose bits XOR to 0 for every data word, and both are independent.
-- Assumes nothing.
use mathlib.Core.Path.{◌≡◌, refl, sym, ap, ap₂, ◌∙◌, subst}
use mathlib.Core.Bool.{Bool, true, false}
use mathlib.Core.Logic.{inl, inr, ◌↔◌}
use Prim.Native.Nat.{ℕ, zero, suc, ◌+◌, ◌-◌, ◌*◌, ◌/◌, ◌%◌, ◌^◌, ◌<◌}
use native.Mathlib.Nat.{lt_irrefl, mod-lt, add_comm}
use native.Mathlib.Omega.{arith}
use borrow.Author.Tests.{eq-eqb, ne_eqb, lt-ltb, le-ltb}
use lib.Dec.{T, ltb, eqb}
use lib.ListN.{length, get_or}
use lib.Pow.{pow_pos, pow-lt, shr_lt, split}
use Rattle.std.specs.Prelude.{if◌then◌else◌}
use Rattle.gf2.specs.Sets.{bit, has, ◌⊕◌, over}
use Rattle.gf2.specs.Span.{InSpan, Independent, select}
use Rattle.gf2.proofs.Tests.{T-ext, ltb_out, eqb_in, eqb_out}
use Rattle.gf2.proofs.Bits.{bit-of-zero, bit_shift, bit-⊕_bits, ext_below, has_if}
use Rattle.gf2.proofs.Xor.{⊕_lt, ⊕_self, zero-⊕, ⊕-zero, ⊕_cancel}
use Rattle.gf2.proofs.Sums.{over_cong, over-⊕, over_none, over-bit, over_lt, over-set, over-only, over-disk, over-append, over_comm, over-one, over_power, if_has, select_in, in_select}
use Rattle.flat.specs.Lists.{tabulate}
use Rattle.flat.specs.Cards.{Code, disks, column}
use Rattle.flat.specs.Strips.{holds}
use Rattle.flat.specs.Erasures.{holds_bit}
use Rattle.flat.specs.Checks.{row, check}
use Rattle.flat.specs.Spans.{codeword, rows, checks}
use Rattle.flat.proofs.Lists.{length-tabulate, get_d_tabulate}
use Rattle.flat.proofs.Quantifiers.{set_lt, bit-set, has-set}
use Rattle.flat.proofs.Words.{holds_data, holds-parity, word_data, codeword_lt, codeword-bit}

-- ---- tables of rows

pub select-tabulate : (n x : ℕ) (f : ℕ → ℕ) → select (tabulate n f) x ≡ over n x f
unfolding select
select-tabulate n x f =
    ap (λ (m : ℕ). over m x (λ i. get_or (tabulate n f) i 0)) (length-tabulate n f)
    ∙ over_cong n x (λ i. get_or (tabulate n f) i 0) f (λ i l t. get_d_tabulate n f i l)

-- what is linear and 0 at each row is 0 at each word of the span
pub span_zero : (φ : ℕ → ℕ) → φ 0 ≡ 0 → ((a b : ℕ) → φ (a ⊕ b) ≡ φ a ⊕ φ b) → (n : ℕ) (f : ℕ → ℕ)
    → ((i : ℕ) → i < n → φ (f i) ≡ 0) → (w : ℕ) → InSpan (tabulate n f) w → φ w ≡ 0
unfolding tabulate
span_zero φ z lin zero f h w e = ap φ e ∙ z
span_zero φ z lin (suc n) f h w (inl s) = span_zero φ z lin n (λ i. f (suc i)) (λ i l. h (suc i) (omega arith)) w s
span_zero φ z lin (suc n) f h w (inr s) =
    sym (zero-⊕ (φ w)) ∙ ap (λ (a : ℕ). a ⊕ φ w) (sym (h 0 (omega arith))) ∙ sym (lin (f 0) w)
    ∙ span_zero φ z lin n (λ i. f (suc i)) (λ i l. h (suc i) (omega arith)) (f 0 ⊕ w) s

-- a table is independent where row i alone, of the rows from i on, has disk p i
pub pivots_indep : (n : ℕ) (f p : ℕ → ℕ) → ((i : ℕ) → i < n → bit (f i) (p i) ≡ 1)
    → ((i j : ℕ) → i < j → j < n → bit (f j) (p i) ≡ 0) → Independent (tabulate n f)
unfolding tabulate
pivots_indep zero f p own other = tt
pivots_indep (suc n) f p own other = (
  pivots_indep n (λ i. f (suc i)) (λ i. p (suc i)) (λ i l. own (suc i) (omega arith)) (λ i j l m. other (suc i) (suc j) (omega arith) (omega arith)),
  λ s. let z =
      span_zero (λ w. bit w (p 0)) (bit-of-zero (p 0)) (λ a b. bit-⊕_bits a b (p 0)) n (λ i. f (suc i))
      (λ i l. other 0 (suc i) (omega arith) (omega arith)) (f 0) s in
      let o = own 0 (omega arith) in
      omega arith,
)

-- ---- the rows

module _ (C : Code) where
  row-bit : (i d : ℕ) → d < disks C → bit (row C i) d ≡ (if (if ltb d C.k then eqb d i else has (column C (d - C.k)) i) then 1 else 0)
  unfolding row
  row-bit i d l = bit-set (disks C) (λ e. if ltb e C.k then eqb e i else has (column C (e - C.k)) i) d l

  pub row_has : (i d : ℕ) → d < disks C → has (row C i) d ≡ (if ltb d C.k then eqb d i else has (column C (d - C.k)) i)
  unfolding row
  row_has i d l = has-set (disks C) (λ e. if ltb e C.k then eqb e i else has (column C (e - C.k)) i) d l

  pub row_lt : (i : ℕ) → row C i < 2 ^ disks C
  unfolding row
  row_lt i = set_lt (disks C) (λ e. if ltb e C.k then eqb e i else has (column C (e - C.k)) i)

  pub rows-length : length (rows C) ≡ C.k
  unfolding rows
  rows-length = length-tabulate C.k (row C)

  -- what x selects of the rows is its codeword
  pub select-rows : (x : ℕ) → select (rows C) x ≡ codeword C x
  unfolding rows holds_bit
  select-rows x =
      select-tabulate C.k x (row C)
      ∙ ext_below (disks C) (over C.k x (row C)) (codeword C x) (over_lt (disks C) C.k x (row C) (λ i l t. row_lt i)) (codeword_lt C x)
      (λ d l. over-bit C.k x (row C) d ∙ over_cong C.k x (λ i. bit (row C i) d) (at d (ltb d C.k)) (λ i m t. row-bit i d l)
      ∙ word d (ltb d C.k) (ltb_out d C.k) ∙ sym (codeword-bit C x d l))
    where
      at : ℕ → Bool → ℕ → ℕ
      at d b i = if (if b then eqb d i else has (column C (d - C.k)) i) then 1 else 0

      word : (d : ℕ) (b : Bool) → (T b → d < C.k) → over C.k x (at d b) ≡ (if b then bit x d else over C.k (column C (d - C.k)) (bit x))
      word d true h = over-one C.k x d (h tt)
      word d false h =
          over_cong C.k x (at d false) (bit (column C (d - C.k))) (λ i l t. if_has (column C (d - C.k)) i)
          ∙ over_comm C.k x (column C (d - C.k))

  pub rows_span : (w : ℕ) → InSpan (rows C) w ↔ ((x : ℕ) × (x < 2 ^ C.k) × (codeword C x ≡ w))
  rows_span w = (
    λ s. let r = in_select (rows C) w s in
        (r.0, subst (λ (n : ℕ). r.0 < 2 ^ n) rows-length r.1, sym (select-rows r.0) ∙ r.2),
    λ r. subst (InSpan (rows C)) (select-rows r.0 ∙ r.2) (select_in (rows C) r.0),
  )

  -- row i is the only one with data disk i
  pub row_data : (j i : ℕ) → i < C.k → bit (row C j) i ≡ (if eqb i j then 1 else 0)
  unfolding disks
  row_data j i l = row-bit j i (omega arith) ∙ rw (lt-ltb i C.k l)

  pub rows-indep : Independent (rows C)
  unfolding rows
  rows-indep =
      pivots_indep C.k (row C) (λ i. i)
      (λ i l. row_data i i l ∙ rw (eq-eqb i i refl))
      (λ i j l m. row_data j i (omega arith) ∙ rw (ne_eqb i j (λ e. lt_irrefl i (subst (λ (y : ℕ). i < y) (sym e) l))))

-- ---- the checks

module _ (C : Code) where
  -- is disk d in check j?
  in_check : ℕ → ℕ → Bool
  in_check j d = if ltb d C.k then has (column C j) d else eqb d (C.k + j)

  check-has : (j d : ℕ) → d < disks C → has (check C j) d ≡ in_check j d
  unfolding check in_check
  check-has j d l = has-set (disks C) (in_check j) d l

  pub check_lt : (j : ℕ) → check C j < 2 ^ disks C
  unfolding check in_check
  check_lt j = set_lt (disks C) (in_check j)

  -- check j is the only one with parity disk k + j
  pub check-parity : (j i : ℕ) → i < C.m → bit (check C j) (C.k + i) ≡ (if eqb i j then 1 else 0)
  unfolding check in_check disks
  check-parity j i l =
      bit-set (disks C) (in_check j) (C.k + i) (omega arith)
      ∙ rw (le-ltb (C.k + i) C.k (omega arith), T-ext {a = eqb (C.k + i) (C.k + j)} {b = eqb i j} (λ t. shift t) (λ t. eqb_in (ap (λ (y : ℕ). C.k + y) (eqb_out i j t))))
    where
      shift : T (eqb (C.k + i) (C.k + j)) → T (eqb i j)
      shift t = let e = eqb_out (C.k + i) (C.k + j) t in eqb_in (let q : i ≡ j = omega arith in q)

  pub checks-length : length (checks C) ≡ C.m
  unfolding checks
  checks-length = length-tabulate C.m (check C)

  pub checks-indep : Independent (checks C)
  unfolding checks
  checks-indep =
      pivots_indep C.m (check C) (λ i. C.k + i)
      (λ i l. check-parity i i l ∙ rw (eq-eqb i i refl))
      (λ i j l m. check-parity j i (omega arith) ∙ rw (ne_eqb i j (λ e. lt_irrefl i (subst (λ (y : ℕ). i < y) (sym e) l))))

  -- what p selects of the checks has p as its parity part
  pub select-parity : (p i : ℕ) → i < C.m → bit (select (checks C) p) (C.k + i) ≡ bit p i
  unfolding checks
  select-parity p i l =
      ap (λ (w : ℕ). bit w (C.k + i)) (select-tabulate C.m p (check C)) ∙ over-bit C.m p (check C) (C.k + i)
      ∙ over_cong C.m p (λ j. bit (check C j) (C.k + i)) (λ j. if eqb i j then 1 else 0) (λ j m t. check-parity j i l)
      ∙ over-one C.m p i l

  -- a check is a word of their span
  pub check-word : (j : ℕ) → j < C.m → InSpan (checks C) (check C j)
  unfolding checks
  check-word j l =
      subst (InSpan (checks C))
      (select-tabulate C.m (2 ^ j) (check C) ∙ over-disk C.m j (check C) l)
      (select_in (checks C) (2 ^ j))

  pub select-checks_lt : (p : ℕ) → select (checks C) p < 2 ^ disks C
  unfolding checks
  select-checks_lt p =
      subst (λ (w : ℕ). w < 2 ^ disks C) (sym (select-tabulate C.m p (check C))) (over_lt (disks C) C.m p (check C) (λ j l t. check_lt j))

  -- what the disks of a check hold XORs to 0, and so does what those of a check word hold
  check-sum : (v : ℕ → ℕ) (j : ℕ) → j < C.m → over (disks C) (check C j) (holds C v) ≡ 0
  unfolding disks in_check
  check-sum v j l =
      over-append C.k C.m (check C j) (holds C v)
      ∙ ap₂ (λ (a b : ℕ). a ⊕ b)
      (over-set C.k (check C j) (column C j) (holds C v) (λ i m. check-has j i (omega arith) ∙ rw (lt-ltb i C.k m))
      ∙ over_cong C.k (column C j) (holds C v) v (λ i m t. holds_data C v i m))
      (over-only C.m (check C j / 2 ^ C.k) j (λ i. holds C v (C.k + i)) l
      (λ i m. has_if (check C j / 2 ^ C.k) i (eqb i j) (bit_shift C.k (check C j) i ∙ check-parity j i m))
      ∙ holds-parity C v j)
      ∙ ⊕_self (over C.k (column C j) v)

  pub word_sum : (E : ℕ) → InSpan (checks C) E → (v : ℕ → ℕ) → over (disks C) E (holds C v) ≡ 0
  unfolding checks
  word_sum E s v =
      span_zero (λ w. over (disks C) w (holds C v)) (over_none (disks C) (holds C v)) (λ a b. over-⊕ (disks C) a b (holds C v)) C.m (check C)
      (λ j m. check-sum v j m) E s

  -- the sets whose bits XOR to 0 for every data word
  abbrev pub Zero : ℕ → Type 0
  Zero E = (E < 2 ^ disks C) × ((x : ℕ) → x < 2 ^ C.k → over (disks C) E (holds_bit C x) ≡ 0)

  checks-zero : (E : ℕ) → InSpan (checks C) E → Zero E
  unfolding checks holds_bit
  checks-zero E s =
      let r = in_select (checks C) E s in
      (subst (λ (w : ℕ). w < 2 ^ disks C) r.2 (select-checks_lt r.0), λ x l. word_sum E s (bit x))

  zero-⊕-zero : (E F : ℕ) → Zero E → Zero F → Zero (E ⊕ F)
  zero-⊕-zero E F (l, e) (m, f) = (
    ⊕_lt (disks C) E F l m,
    λ x h. over-⊕ (disks C) E F (holds_bit C x) ∙ ap₂ (λ (a b : ℕ). a ⊕ b) (e x h) (f x h) ∙ ⊕_self 0,
  )

  -- a set of data disks alone is told by the words with one bit
  data_zero : (E : ℕ) → Zero E → E / 2 ^ C.k ≡ 0 → E ≡ 0
  unfolding disks
  data_zero E z e =
      ext_below C.k E 0 below (pow_pos C.k) (λ i l. sym (over_power C.k E i l) ∙ sum i l ∙ sym (bit-of-zero i))
    where
      below : E < 2 ^ C.k
      below =
          subst (λ (x : ℕ). x < 2 ^ C.k)
          ((let z : E % 2 ^ C.k ≡ 0 * 2 ^ C.k + E % 2 ^ C.k = omega arith in z) ∙ ap (λ (q : ℕ). q * 2 ^ C.k + E % 2 ^ C.k) (sym e) ∙ split E C.k)
          (mod-lt E (pow_pos C.k))

      sum : (i : ℕ) → i < C.k → over C.k E (bit (2 ^ i)) ≡ 0
      sum i l =
          over_cong C.k E (bit (2 ^ i)) (holds_bit C (2 ^ i)) (λ d m t. sym (word_data C (2 ^ i) d m))
          ∙ sym (⊕-zero (over C.k E (holds_bit C (2 ^ i))))
          ∙ ap (λ (y : ℕ). over C.k E (holds_bit C (2 ^ i)) ⊕ y)
          (sym (over_none C.m (λ j. holds_bit C (2 ^ i) (C.k + j))) ∙ ap (λ (q : ℕ). over C.m q (λ j. holds_bit C (2 ^ i) (C.k + j))) (sym e))
          ∙ sym (over-append C.k C.m E (holds_bit C (2 ^ i))) ∙ z.1 (2 ^ i) (pow-lt l)

  -- such a set is what its parity part selects of the checks
  pub zero_selects : (E : ℕ) → Zero E → select (checks C) (E / 2 ^ C.k) ≡ E
  unfolding disks
  zero_selects E z =
      let p = E / 2 ^ C.k in
      let w = select (checks C) p in
      let zw : Zero (E ⊕ w) = zero-⊕-zero E w z (checks-zero w (select_in (checks C) p)) in
      sym
      (⊕_cancel E w
      (data_zero (E ⊕ w) zw
      (ext_below C.m ((E ⊕ w) / 2 ^ C.k) 0 (shr_lt C.m C.k (subst (λ (n : ℕ). E ⊕ w < 2 ^ n) (add_comm C.k C.m) zw.0)) (pow_pos C.m)
      (λ j l. bit_shift C.k (E ⊕ w) j ∙ bit-⊕_bits E w (C.k + j)
      ∙ ap₂ (λ (a b : ℕ). a ⊕ b) (sym (bit_shift C.k E j)) (select-parity p j l) ∙ ⊕_self (bit p j) ∙ sym (bit-of-zero j)))))

  pub checks_span : (E : ℕ) → InSpan (checks C) E ↔ Zero E
  checks_span E = (checks-zero E, λ z. subst (InSpan (checks C)) (zero_selects E z) (select_in (checks C) (E / 2 ^ C.k)))
