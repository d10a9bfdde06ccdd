-- How many disks a set holds, and how many rows `within` must leave: one for each disk outside the set at most is dropped.
-- Assumes nothing.
use mathlib.Core.Path.{◌≡◌, refl, sym, ap, ap₂, ◌∙◌, subst}
use mathlib.Core.Logic.{◌⊎◌, inl, inr, ◌≢◌, ◌↔◌, ⊎_elim}
use mathlib.Core.List.{List, [], ◌∷◌, map}
use Prim.Native.Nat.{ℕ, ◌+◌, ◌-◌, ◌*◌, ◌/◌, ◌%◌, ◌^◌, ◌≤◌, ◌<◌}
use native.Mathlib.Nat.{mod-eq_of_lt}
use native.Mathlib.Omega.{arith}
use lib.Arith.{bin_ind}
use lib.Bits.{xor_shr, and_shr, and_mask, and_comm}
use lib.Count.{ones, ones_step, ones_cat, ones-ones, ones-le}
use lib.Dec.{T, eqb}
use lib.ListN.{length, length-map}
use lib.Pow.{pow_pos}
use Rattle.gf2.specs.Sets.{bit, has, size, ◌∩◌, ◌⊕◌, ◌∖◌, ◌⊆◌}
use Rattle.gf2.specs.Span.{InSpan}
use Rattle.gf2.specs.Within.{lowest, clear, within}
use Rattle.gf2.proofs.Tests.{dec, eqb_in, eqb_out}
use Rattle.gf2.proofs.Bits.{bit_lt, bit-low, bit_cases, by_digits, bit-⊕, bit-∩, not-has}
use Rattle.gf2.proofs.Xor.{zero-⊕}
use Rattle.gf2.proofs.Subsets.{⊆_in, ⊆_out, ⊕_out, ∩_out, zero-⊆, ⊆-zero, ∖_in, ∖_out, less-⊆, ⊆-none, none-⊆, power_out, power_⊆, less-back, lowest-has}
use Rattle.gf2.proofs.Spans.{first_in}
use Rattle.gf2.proofs.Elimination.{clear-is, clear_out, dropped_has, by_rows, within-kept, within_dropped}

-- ---- sizes

pub size_lt : (n S : ℕ) → S < 2 ^ n → size S ≤ n
unfolding size
size_lt n S l = ones-le n S l

pub size-zero : size 0 ≡ 0
unfolding size
size-zero = ones-ones 0

pub size_power : (d : ℕ) → size (2 ^ d) ≡ 1
unfolding size
size_power d =
    let e : 2 ^ d ≡ 1 * 2 ^ d + 0 = omega arith in
    ap ones e ∙ ones_cat d 1 0 (pow_pos d)

-- what is outside S, and what is inside: digit by digit
low_split : (R S : ℕ) → (R ∖ S) % 2 + (R ∩ S) % 2 ≡ R % 2
unfolding ◌∖◌
low_split R S =
    ap₂ (λ (x y : ℕ). x + y) (sym (bit-low (R ∖ S)) ∙ bit-⊕ R (R ∩ S) 0) (sym (bit-low (R ∩ S)))
    ∙ rw (bit-∩ R S 0) (go (bit_cases R 0) (bit_cases S 0)) ∙ bit-low R
  where
    go : (bit R 0 ≡ 0) ⊎ (bit R 0 ≡ 1) → (bit S 0 ≡ 0) ⊎ (bit S 0 ≡ 1) → (bit R 0 + bit R 0 * bit S 0) % 2 + bit R 0 * bit S 0 ≡ bit R 0
    go (inl p) (inl q) = rw (p, q)
    go (inl p) (inr q) = rw (p, q)
    go (inr p) (inl q) = rw (p, q)
    go (inr p) (inr q) = rw (p, q)

half-∩ : (R S : ℕ) → (R ∩ S) / 2 ≡ (R / 2) ∩ (S / 2)
unfolding ◌∩◌
half-∩ R S = and_shr R S 1

half-∖ : (R S : ℕ) → (R ∖ S) / 2 ≡ (R / 2) ∖ (S / 2)
unfolding ◌∖◌ ◌⊕◌
half-∖ R S = xor_shr R (R ∩ S) 1 ∙ ap (λ (x : ℕ). (R / 2) ⊕ x) (half-∩ R S)

pub size_split : (R S : ℕ) → size (R ∖ S) + size (R ∩ S) ≡ size R
unfolding size
size_split =
    bin_ind (λ (R : ℕ). (S : ℕ) → ones (R ∖ S) + ones (R ∩ S) ≡ ones R) none
    (λ R ih S.
    let a : ones (R ∖ S) ≡ (R ∖ S) % 2 + ones ((R / 2) ∖ (S / 2)) = ones_step (R ∖ S) ∙ ap (λ (x : ℕ). (R ∖ S) % 2 + ones x) (half-∖ R S) in
    let b : ones (R ∩ S) ≡ (R ∩ S) % 2 + ones ((R / 2) ∩ (S / 2)) = ones_step (R ∩ S) ∙ ap (λ (x : ℕ). (R ∩ S) % 2 + ones x) (half-∩ R S) in
    omega (arith, a, b, ones_step R, ih (S / 2), low_split R S))
  where
    none : (S : ℕ) → ones (0 ∖ S) + ones (0 ∩ S) ≡ ones 0
    none S =
        ap₂ (λ (x y : ℕ). ones x + ones y) (⊆-none 0 S (zero-⊆ S)) (⊆-zero (0 ∩ S) (⊆_in (0 ∩ S) 0 (λ i m. (∩_out 0 S i m).0)))
        ∙ (let z : ones 0 + 0 ≡ ones 0 = omega arith in ap (λ (x : ℕ). ones 0 + x) (ones-ones 0) ∙ z)

-- a disk taken out
pub size_less : (S d : ℕ) → T (has S d) → size (S ∖ 2 ^ d) + 1 ≡ size S
unfolding ◌⊆◌ ◌∩◌
size_less S d m =
    let e : S ∩ 2 ^ d ≡ 2 ^ d = and_comm S (2 ^ d) ∙ eqb_out (2 ^ d ∩ S) (2 ^ d) (power_⊆ d S m) in
    ap (λ (x : ℕ). size (S ∖ 2 ^ d) + x) (sym (size_power d) ∙ ap size (sym e)) ∙ size_split S (2 ^ d)

-- a set inside another
pub size-⊆ : (R S : ℕ) → T (R ⊆ S) → size R ≤ size S
unfolding ◌⊆◌ ◌∩◌
size-⊆ R S t =
    let e : S ∩ R ≡ R = and_comm S R ∙ eqb_out (R ∩ S) R t in
    omega (arith, size_split S R, ap size e)

-- an XOR lacks what both hold
low-⊕ : (R S : ℕ) → (R ⊕ S) % 2 + 2 * ((R ∩ S) % 2) ≡ R % 2 + S % 2
low-⊕ R S =
    ap₂ (λ (x y : ℕ). x + 2 * y) (sym (bit-low (R ⊕ S)) ∙ bit-⊕ R S 0) (sym (bit-low (R ∩ S)) ∙ bit-∩ R S 0)
    ∙ by_digits (λ a b. (a + b) % 2 + 2 * (a * b) ≡ a + b) refl refl refl refl (bit R 0) (bit S 0) (bit_lt R 0) (bit_lt S 0)
    ∙ ap₂ ◌+◌ (bit-low R) (bit-low S)

half-⊕ : (R S : ℕ) → (R ⊕ S) / 2 ≡ (R / 2) ⊕ (S / 2)
unfolding ◌⊕◌
half-⊕ R S = xor_shr R S 1

pub size-⊕ : (R S : ℕ) → size (R ⊕ S) + 2 * size (R ∩ S) ≡ size R + size S
unfolding size
size-⊕ =
    bin_ind (λ (R : ℕ). (S : ℕ) → ones (R ⊕ S) + 2 * ones (R ∩ S) ≡ ones R + ones S)
    (λ S. rw (zero-⊕ S, ⊆-zero (0 ∩ S) (⊆_in (0 ∩ S) 0 (λ i m. (∩_out 0 S i m).0))) (let o : ones 0 ≡ 0 = ones-ones 0 in omega arith))
    (λ R ih S.
    let a : ones (R ⊕ S) ≡ (R ⊕ S) % 2 + ones ((R / 2) ⊕ (S / 2)) = ones_step (R ⊕ S) ∙ ap (λ (x : ℕ). (R ⊕ S) % 2 + ones x) (half-⊕ R S) in
    let b : ones (R ∩ S) ≡ (R ∩ S) % 2 + ones ((R / 2) ∩ (S / 2)) = ones_step (R ∩ S) ∙ ap (λ (x : ℕ). (R ∩ S) % 2 + ones x) (half-∩ R S) in
    omega (arith, a, b, ones_step R, ones_step S, ih (S / 2), low-⊕ R S))

-- a set of some disk, of no disk, and of one
pub size_pos : (S : ℕ) → S ≢ 0 → 1 ≤ size S
size_pos S f = omega (arith, size_less S (lowest S) (lowest-has S f))

pub size_none : (S : ℕ) → size S ≡ 0 → S ≡ 0
size_none S e = ⊎_elim (eqb_out S 0) (λ f. absurd (omega (arith, size_pos S (λ z. f (eqb_in z))))) (dec (eqb S 0))

pub size-one : (S : ℕ) → size S ≡ 1 → S ≡ 2 ^ lowest S
size-one S e =
    let m : T (has S (lowest S)) = lowest-has S (λ o. let h : size S ≡ 0 = ap size o ∙ size-zero in omega arith) in
    let h = size_less S (lowest S) m in
    let n : S ∖ 2 ^ lowest S ≡ 0 = size_none (S ∖ 2 ^ lowest S) (omega arith) in
    sym (less-back S (lowest S) m) ∙ ap (λ (x : ℕ). x ⊕ 2 ^ lowest S) n ∙ zero-⊕ (2 ^ lowest S)

-- R lies inside S exactly where its disks and those of just one of the two add up to as many as S has
pub inside-sizes : (R S : ℕ) → T (R ⊆ S) ↔ (size R + size (R ⊕ S) ≡ size S)
inside-sizes R S = (
  λ t. omega (arith, ap size (⊆-none R S t), size-zero, size_split R S, size-⊕ R S),
  λ e. none-⊆ R S (size_none (R ∖ S) (omega (arith, e, size_split R S, size-⊕ R S))),
)

-- all disks below n
pub all-⊆ : (n S : ℕ) → S < 2 ^ n → T (S ⊆ 2 ^ n - 1)
unfolding ◌⊆◌ ◌∩◌
all-⊆ n S l = eqb_in (and_mask S n ∙ mod-eq_of_lt l)

-- the disks below n that are not in S
pub size-rest : (n S : ℕ) → S < 2 ^ n → size ((2 ^ n - 1) ∖ S) + size S ≡ n
unfolding size ◌∩◌
size-rest n S l =
    ap (λ (x : ℕ). size ((2 ^ n - 1) ∖ S) + size x) (sym (mod-eq_of_lt l) ∙ sym (and_mask S n) ∙ and_comm S (2 ^ n - 1))
    ∙ size_split (2 ^ n - 1) S ∙ ones-ones n

-- ---- the rows that are left

-- the disks of the rows outside S are in U
abbrev Outside : ℕ → ℕ → List ℕ → Type 0
Outside S U [] = Unit {0}
Outside S U (b ∷ bs) = T (b ∖ S ⊆ U) × Outside S U bs

-- rows cleared of a disk have no more than the others of U
cleared-outside : (S U b d : ℕ) → bit b d ≡ 1 → T (b ∖ S ⊆ U) → (bs : List ℕ) → Outside S U bs → Outside S (U ∖ 2 ^ d) (map (clear d b) bs)
cleared-outside S U b d hb ub [] o = tt
cleared-outside S U b d hb ub (v ∷ bs) o = (
  ⊆_in (clear d b v ∖ S) (U ∖ 2 ^ d) (λ i m. let p = ∖_out (clear d b v) S i m in
      ∖_in U (2 ^ d) i (from i p.0 p.1) (λ t. not-has (clear d b v) d (clear_out d b hb v) (subst (λ (x : ℕ). T (has (clear d b v) x)) (power_out d i t) p.0))),
  cleared-outside S U b d hb ub bs o.1,
)
  where
    from : (i : ℕ) → T (has (clear d b v) i) → (T (has S i) → ⊥) → T (has U i)
    from i m f =
        ⊎_elim (λ e. ⊆_out (v ∖ S) U o.0 i (∖_in v S i (subst (λ (x : ℕ). T (has x i)) e m) f))
        (λ e. ⊎_elim (λ t. ⊆_out (v ∖ S) U o.0 i (∖_in v S i t f)) (λ t. ⊆_out (b ∖ S) U ub i (∖_in b S i t f))
        (⊕_out v b i (subst (λ (x : ℕ). T (has x i)) e m)))
        (clear-is d b v)

pub within_leaves : (S : ℕ) (bs : List ℕ) (U : ℕ) → Outside S U bs → length bs ≤ length (within S bs) + size U
within_leaves S =
    by_rows S (λ bs. (U : ℕ) → Outside S U bs → length bs ≤ length (within S bs) + size U) (λ U o. omega arith)
    (λ b bs t ih U o. rw (within-kept S b bs t) (let h = ih U o.1 in omega arith))
    (λ b bs f ih U o.
    let d = lowest (b ∖ S) in
    let p = dropped_has S b f in
    let u : T (has U d) = ⊆_out (b ∖ S) U o.0 d (lowest-has (b ∖ S) (λ e. f (none-⊆ b S e))) in
    let h = ih (U ∖ 2 ^ d) (cleared-outside S U b d p.0 o.0 bs o.1) in
    rw (within_dropped S b bs f) (omega (arith, h, size_less U d u, length-map bs (clear d b))))

-- rows of disks below n, outside S
below-outside : (n S : ℕ) (bs : List ℕ) → ((v : ℕ) → InSpan bs v → v < 2 ^ n) → Outside S ((2 ^ n - 1) ∖ S) bs
below-outside n S [] h = tt
below-outside n S (b ∷ bs) h = (less-⊆ b (2 ^ n - 1) S (all-⊆ n b (h b (first_in b bs))), below-outside n S bs (λ v s. h v (inl s)))

-- A word inside which one row is left, of rows of disks below n, holds at most n + 1 disks less one for each row.
pub one-left-size : (n : ℕ) (bs : List ℕ) → ((v : ℕ) → InSpan bs v → v < 2 ^ n) → (w : ℕ) → InSpan bs w → length (within w bs) ≡ 1
    → length bs + size w ≤ n + 1
one-left-size n bs h w s e = omega (arith, within_leaves w bs ((2 ^ n - 1) ∖ w) (below-outside n w bs h), size-rest n w (h w s))
