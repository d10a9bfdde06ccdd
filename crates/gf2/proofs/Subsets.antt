-- Sets by their disks: ⊆ and ⊂, the disks of R outside S, and the lowest disk of a set.
-- Assumes nothing.
use mathlib.Core.Path.{◌≡◌, sym, ap, ◌∙◌, subst}
use mathlib.Core.Bool.{not}
use mathlib.Core.Logic.{◌⊎◌, inl, inr, ◌≢◌, ⊎_elim}
use Prim.Native.Nat.{ℕ, zero, suc, ◌+◌, ◌*◌, ◌/◌, ◌%◌, ◌^◌, ◌≤◌, ◌<◌}
use native.Mathlib.Nat.{zero-lt-suc, mod-lt, zero-mul, one-mul}
use native.Mathlib.Omega.{arith}
use lib.Bits.{and_comm, and_le_r, and_zero_r, xor_disjoint}
use lib.Count.{count_trailing_zeros}
use lib.Dec.{T, eqb}
use lib.Pow.{pow_mono, pow_pos}
use Rattle.gf2.specs.Sets.{bit, has, ◌∩◌, ◌⊕◌, ◌∖◌, ◌⊆◌, ◌⊂◌}
use Rattle.gf2.specs.Within.{lowest}
use Rattle.gf2.proofs.Tests.{dec, below_or, and_in, and_out, eqb_in, eqb_out, neqb_in, neqb_out, T-ext}
use Rattle.gf2.proofs.Bits.{bit_cases, two_cases, bit-low, bit-suc, half_lt, bit-of-zero, bit_above, bit-pow-same, bit-pow_other, bit-⊕, bit-∩, ext, lt_pow, has_in, has_out, has-not, not-has}
use Rattle.gf2.proofs.Xor.{⊕_assoc, ⊕_self, ⊕-zero, ⊕_cancel}

-- ---- membership

pub ⊆_in : (R S : ℕ) → ((i : ℕ) → T (has R i) → T (has S i)) → T (R ⊆ S)
unfolding ◌⊆◌
⊆_in R S h = eqb_in (ext (R ∩ S) R (λ i. bit-∩ R S i ∙ same i (bit_cases R i)))
  where
    same : (i : ℕ) → (bit R i ≡ 0) ⊎ (bit R i ≡ 1) → bit R i * bit S i ≡ bit R i
    same i (inl e) = rw e (zero-mul (bit S i))
    same i (inr e) = rw (e, has_out S i (h i (has_in R i e)))

pub ⊆_out : (R S : ℕ) → T (R ⊆ S) → (i : ℕ) → T (has R i) → T (has S i)
unfolding ◌⊆◌
⊆_out R S t i m =
    let r : bit R i ≡ 1 = has_out R i m in
    let e : bit R i * bit S i ≡ bit R i = sym (bit-∩ R S i) ∙ ap (λ (x : ℕ). bit x i) (eqb_out (R ∩ S) R t) in
    has_in S i (sym (one-mul (bit S i)) ∙ (rw r at e))

pub ⊕_out : (a b i : ℕ) → T (has (a ⊕ b) i) → T (has a i) ⊎ T (has b i)
⊕_out a b i m = go (bit_cases a i) (bit_cases b i)
  where
    go : (bit a i ≡ 0) ⊎ (bit a i ≡ 1) → (bit b i ≡ 0) ⊎ (bit b i ≡ 1) → T (has a i) ⊎ T (has b i)
    go (inl p) (inl q) = absurd (not-has (a ⊕ b) i (bit-⊕ a b i ∙ rw (p, q)) m)
    go (inl p) (inr q) = inr (has_in b i q)
    go (inr p) q = inl (has_in a i p)

pub ⊕-left : (a b i : ℕ) → T (has a i) → (T (has b i) → ⊥) → T (has (a ⊕ b) i)
⊕-left a b i m f = has_in (a ⊕ b) i (bit-⊕ a b i ∙ rw (has_out a i m, has-not b i f))

pub ⊕-both : (a b i : ℕ) → T (has (a ⊕ b) i) → T (has a i) → T (has b i) → ⊥
⊕-both a b i t m n = not-has (a ⊕ b) i (bit-⊕ a b i ∙ rw (has_out a i m, has_out b i n)) t

pub ∩_out : (R S i : ℕ) → T (has (R ∩ S) i) → T (has R i) × T (has S i)
∩_out R S i m = go (bit_cases R i) (bit_cases S i)
  where
    go : (bit R i ≡ 0) ⊎ (bit R i ≡ 1) → (bit S i ≡ 0) ⊎ (bit S i ≡ 1) → T (has R i) × T (has S i)
    go (inl p) q = absurd (not-has (R ∩ S) i (bit-∩ R S i ∙ rw p (zero-mul (bit S i))) m)
    go (inr p) (inl q) = absurd (not-has (R ∩ S) i (bit-∩ R S i ∙ rw (p, q)) m)
    go (inr p) (inr q) = (has_in R i p, has_in S i q)

pub ∩_in : (R S i : ℕ) → T (has R i) → T (has S i) → T (has (R ∩ S) i)
∩_in R S i m n = has_in (R ∩ S) i (bit-∩ R S i ∙ rw (has_out R i m, has_out S i n))

-- a disk of a set of disks below n is below n
pub member_below : (n S i : ℕ) → S < 2 ^ n → T (has S i) → i < n
member_below n S i l t = ⊎_elim (λ h. h) (λ h. absurd (not-has S i (bit_above n S i l h) t)) (below_or i n)

pub same-disks : (R S : ℕ) → ((i : ℕ) → has R i ≡ has S i) → R ≡ S
same-disks R S e = ext R S (λ i. go i (bit_cases R i))
  where
    go : (i : ℕ) → (bit R i ≡ 0) ⊎ (bit R i ≡ 1) → bit R i ≡ bit S i
    go i (inl p) = p ∙ sym (has-not S i (λ t. not-has R i p (subst T (sym (e i)) t)))
    go i (inr p) = p ∙ sym (has_out S i (subst T (e i) (has_in R i p)))

-- ---- the order

pub ⊆-refl : (S : ℕ) → T (S ⊆ S)
⊆-refl S = ⊆_in S S (λ i m. m)

pub ⊆_trans : (Q R S : ℕ) → T (Q ⊆ R) → T (R ⊆ S) → T (Q ⊆ S)
⊆_trans Q R S p q = ⊆_in Q S (λ i m. ⊆_out R S q i (⊆_out Q R p i m))

pub ⊆_antisym : (R S : ℕ) → T (R ⊆ S) → T (S ⊆ R) → R ≡ S
⊆_antisym R S p q = same-disks R S (λ i. T-ext (⊆_out R S p i) (⊆_out S R q i))

pub zero-⊆ : (S : ℕ) → T (0 ⊆ S)
zero-⊆ S = ⊆_in 0 S (λ i m. absurd (not-has 0 i (bit-of-zero i) m))

pub ⊆-zero : (R : ℕ) → T (R ⊆ 0) → R ≡ 0
⊆-zero R t = ⊆_antisym R 0 t (zero-⊆ R)

-- the XOR of two sets inside S is inside S
pub ⊕-⊆ : (a b S : ℕ) → T (a ⊆ S) → T (b ⊆ S) → T (a ⊕ b ⊆ S)
⊕-⊆ a b S p q = ⊆_in (a ⊕ b) S (λ i m. go i (⊕_out a b i m))
  where
    go : (i : ℕ) → T (has a i) ⊎ T (has b i) → T (has S i)
    go i (inl m) = ⊆_out a S p i m
    go i (inr m) = ⊆_out b S q i m

pub ⊂_in : (R S : ℕ) → R ≢ S → T (R ⊆ S) → T (R ⊂ S)
unfolding ◌⊂◌
⊂_in R S f t = and_in (not (eqb R S)) (R ⊆ S) (neqb_in f) t

pub ⊂_out : (R S : ℕ) → T (R ⊂ S) → (R ≢ S) × T (R ⊆ S)
unfolding ◌⊂◌
⊂_out R S t = let p = and_out (not (eqb R S)) (R ⊆ S) t in (neqb_out R S p.0, p.1)

-- ---- the disks of R outside S

pub ∖_out : (R S i : ℕ) → T (has (R ∖ S) i) → T (has R i) × (T (has S i) → ⊥)
unfolding ◌∖◌
∖_out R S i m = go (bit_cases R i) (bit_cases S i)
  where
    at : bit (R ⊕ R ∩ S) i ≡ (bit R i + bit R i * bit S i) % 2
    at = bit-⊕ R (R ∩ S) i ∙ ap (λ (x : ℕ). (bit R i + x) % 2) (bit-∩ R S i)

    go : (bit R i ≡ 0) ⊎ (bit R i ≡ 1) → (bit S i ≡ 0) ⊎ (bit S i ≡ 1) → T (has R i) × (T (has S i) → ⊥)
    go (inl p) q = absurd (not-has (R ⊕ R ∩ S) i (at ∙ rw (p, zero-mul (bit S i))) m)
    go (inr p) (inl q) = (has_in R i p, not-has S i q)
    go (inr p) (inr q) = absurd (not-has (R ⊕ R ∩ S) i (at ∙ rw (p, q)) m)

pub ∖_in : (R S i : ℕ) → T (has R i) → (T (has S i) → ⊥) → T (has (R ∖ S) i)
unfolding ◌∖◌
∖_in R S i m f =
    has_in (R ⊕ R ∩ S) i
    (bit-⊕ R (R ∩ S) i ∙ ap (λ (x : ℕ). (bit R i + x) % 2) (bit-∩ R S i) ∙ rw (has_out R i m, has-not S i f))

pub ∖-zero : (S : ℕ) → S ∖ 0 ≡ S
unfolding ◌∖◌ ◌∩◌
∖-zero S = ap (λ (x : ℕ). S ⊕ x) (and_zero_r S) ∙ ⊕-zero S

-- R is inside S where nothing of R is outside
pub ⊆-none : (R S : ℕ) → T (R ⊆ S) → R ∖ S ≡ 0
unfolding ◌⊆◌ ◌∖◌
⊆-none R S t = ap (λ (x : ℕ). R ⊕ x) (eqb_out (R ∩ S) R t) ∙ ⊕_self R

pub none-⊆ : (R S : ℕ) → R ∖ S ≡ 0 → T (R ⊆ S)
unfolding ◌⊆◌ ◌∖◌
none-⊆ R S e = eqb_in (sym (⊕_cancel R (R ∩ S) e))

-- ---- a set with one disk

pub power_in : (d : ℕ) → T (has (2 ^ d) d)
power_in d = has_in (2 ^ d) d (bit-pow-same d)

pub power_out : (d i : ℕ) → T (has (2 ^ d) i) → i ≡ d
power_out d i t = ⊎_elim (eqb_out i d) (λ f. absurd (not-has (2 ^ d) i (bit-pow_other d i (λ e. f (eqb_in e))) t)) (dec (eqb i d))

pub power_same : (a b : ℕ) → 2 ^ a ≡ 2 ^ b → a ≡ b
power_same a b e = power_out b a (subst (λ (w : ℕ). T (has w a)) e (power_in a))

pub power_less : (a b : ℕ) → 2 ^ a < 2 ^ b → a < b
power_less a b l = ⊎_elim (λ h. h) (λ h. absurd (let k : 2 ^ b ≤ 2 ^ a = pow_mono h in omega arith)) (below_or a b)

pub power_⊆ : (d S : ℕ) → T (has S d) → T (2 ^ d ⊆ S)
power_⊆ d S m = ⊆_in (2 ^ d) S (λ i t. subst (λ (x : ℕ). T (has S x)) (sym (power_out d i t)) m)

-- a disk taken out of a set is XORed, or subtracted
pub less-⊕ : (S d : ℕ) → T (has S d) → S ∖ 2 ^ d ≡ S ⊕ 2 ^ d
unfolding ◌∖◌ ◌⊆◌ ◌∩◌
less-⊕ S d m = ap (λ (x : ℕ). S ⊕ x) (and_comm S (2 ^ d) ∙ eqb_out (2 ^ d ∩ S) (2 ^ d) (power_⊆ d S m))

pub less-back : (S d : ℕ) → T (has S d) → S ∖ 2 ^ d ⊕ 2 ^ d ≡ S
less-back S d m = ap (λ (x : ℕ). x ⊕ 2 ^ d) (less-⊕ S d m) ∙ ⊕_assoc S (2 ^ d) (2 ^ d) ∙ ap (λ (x : ℕ). S ⊕ x) (⊕_self (2 ^ d)) ∙ ⊕-zero S

pub plus-has : (S d : ℕ) → (T (has S d) → ⊥) → T (has (S ⊕ 2 ^ d) d)
plus-has S d f = has_in (S ⊕ 2 ^ d) d (bit-⊕ S (2 ^ d) d ∙ rw (has-not S d f, bit-pow-same d))

pub plus-back : (S d : ℕ) → (T (has S d) → ⊥) → (S ⊕ 2 ^ d) ∖ 2 ^ d ≡ S
plus-back S d f =
    less-⊕ (S ⊕ 2 ^ d) d (plus-has S d f) ∙ ⊕_assoc S (2 ^ d) (2 ^ d) ∙ ap (λ (x : ℕ). S ⊕ x) (⊕_self (2 ^ d)) ∙ ⊕-zero S

∖-shares : (R S : ℕ) → (R ∖ S) ∩ S ≡ 0
∖-shares R S = ⊆-zero ((R ∖ S) ∩ S) (⊆_in ((R ∖ S) ∩ S) 0 (λ i m. let p = ∩_out (R ∖ S) S i m in absurd ((∖_out R S i p.0).1 p.1)))

pub less-add : (S d : ℕ) → T (has S d) → (S ∖ 2 ^ d) + 2 ^ d ≡ S
unfolding ◌⊕◌ ◌∩◌
less-add S d m = sym (xor_disjoint (S ∖ 2 ^ d) (2 ^ d) (∖-shares S (2 ^ d))) ∙ less-back S d m

pub less-⊆ : (Q R S : ℕ) → T (Q ⊆ R) → T (Q ∖ S ⊆ R ∖ S)
less-⊆ Q R S t = ⊆_in (Q ∖ S) (R ∖ S) (λ i m. let p = ∖_out Q S i m in ∖_in R S i (⊆_out Q R t i p.0) p.1)

pub plus-⊆ : (R S d : ℕ) → (T (has S d) → ⊥) → T (R ⊆ S) → T (R ⊕ 2 ^ d ⊆ S ⊕ 2 ^ d)
plus-⊆ R S d f t =
    ⊆_in (R ⊕ 2 ^ d) (S ⊕ 2 ^ d)
    (λ i m. ⊎_elim (λ r. old i (⊆_out R S t i r)) (λ p. subst (λ (x : ℕ). T (has (S ⊕ 2 ^ d) x)) (sym (power_out d i p)) (plus-has S d f))
    (⊕_out R (2 ^ d) i m))
  where
    old : (i : ℕ) → T (has S i) → T (has (S ⊕ 2 ^ d) i)
    old i m = ⊕-left S (2 ^ d) i m (λ p. f (subst (λ (x : ℕ). T (has S x)) (power_out d i p) m))

-- a set inside another has no larger number
pub ⊆_le : (R S : ℕ) → T (R ⊆ S) → R ≤ S
unfolding ◌⊆◌ ◌∩◌
⊆_le R S t = subst (λ (x : ℕ). x ≤ S) (eqb_out (R ∩ S) R t) (and_le_r R S)

pub ∖_le : (R S : ℕ) → R ∖ S ≤ R
∖_le R S = ⊆_le (R ∖ S) R (⊆_in (R ∖ S) R (λ i t. (∖_out R S i t).0))

-- ---- the lowest disk

half-nonzero : (S : ℕ) → S ≢ 0 → S % 2 ≡ 0 → S / 2 ≢ 0
half-nonzero S f e q = f (omega arith)

-- digits beyond the number's own change nothing
trailing_same : (j k S : ℕ) → S ≢ 0 → S < 2 ^ j → S < 2 ^ k → count_trailing_zeros j S ≡ count_trailing_zeros k S
unfolding count_trailing_zeros
trailing_same zero k S f h l = absurd (f (omega arith))
trailing_same (suc j) zero S f h l = absurd (f (omega arith))
trailing_same (suc j) (suc k) S f h l =
    go (λ g. trailing_same j k (S / 2) g (half_lt j S h) (half_lt k S l)) (two_cases (S % 2) (mod-lt S (zero-lt-suc 1)))
  where
    go : (S / 2 ≢ 0 → count_trailing_zeros j (S / 2) ≡ count_trailing_zeros k (S / 2)) → (S % 2 ≡ 0) ⊎ (S % 2 ≡ 1) → count_trailing_zeros (suc j) S ≡ count_trailing_zeros (suc k) S
    go ih (inl e) = rw e (ap suc (ih (half-nonzero S f e)))
    go ih (inr e) = rw e

trailing_at : (k S : ℕ) → S ≢ 0 → S < 2 ^ k → (bit S (count_trailing_zeros k S) ≡ 1) × (count_trailing_zeros k S < k)
unfolding count_trailing_zeros
trailing_at zero S f h = absurd (f (omega arith))
trailing_at (suc k) S f h = go (λ g. trailing_at k (S / 2) g (half_lt k S h)) (two_cases (S % 2) (mod-lt S (zero-lt-suc 1)))
  where
    go : (S / 2 ≢ 0 → (bit (S / 2) (count_trailing_zeros k (S / 2)) ≡ 1) × (count_trailing_zeros k (S / 2) < k)) → (S % 2 ≡ 0) ⊎ (S % 2 ≡ 1)
        → (bit S (count_trailing_zeros (suc k) S) ≡ 1) × (count_trailing_zeros (suc k) S < suc k)
    go ih (inl e) = let p = ih (half-nonzero S f e) in rw e (bit-suc S (count_trailing_zeros k (S / 2)) ∙ p.0, omega arith)
    go ih (inr e) = rw e (bit-low S ∙ e, omega arith)

trailing_least : (k S j : ℕ) → S ≢ 0 → S < 2 ^ k → j < count_trailing_zeros k S → bit S j ≡ 0
unfolding count_trailing_zeros
trailing_least zero S j f h l = absurd (f (omega arith))
trailing_least (suc k) S j f h l = go j (λ i g. trailing_least k (S / 2) i g (half_lt k S h)) (two_cases (S % 2) (mod-lt S (zero-lt-suc 1))) l
  where
    go : (j : ℕ) → ((i : ℕ) → S / 2 ≢ 0 → i < count_trailing_zeros k (S / 2) → bit (S / 2) i ≡ 0) → (S % 2 ≡ 0) ⊎ (S % 2 ≡ 1)
        → j < count_trailing_zeros (suc k) S → bit S j ≡ 0
    go zero ih (inl e) m = bit-low S ∙ e
    go (suc i) ih (inl e) m = bit-suc S i ∙ ih i (half-nonzero S f e) (let n = rw e at m in omega arith)
    go j ih (inr e) m = absurd (let n = rw e at m in omega arith)

pub lowest-least : (S j : ℕ) → S ≢ 0 → j < lowest S → T (has S j) → ⊥
unfolding lowest
lowest-least S j f l = not-has S j (trailing_least S S j f (lt_pow S) l)

pub lowest-has : (S : ℕ) → S ≢ 0 → T (has S (lowest S))
unfolding lowest
lowest-has S f = has_in S (lowest S) (trailing_at S S f (lt_pow S)).0

pub lowest_trailing : (k S : ℕ) → S ≢ 0 → S < 2 ^ k → count_trailing_zeros k S ≡ lowest S
unfolding lowest
lowest_trailing k S f h = trailing_same k S S f h (lt_pow S)

-- without it the set is a smaller number
pub lowest-less : (S d rest : ℕ) → S ≢ 0 → d ≡ lowest S → rest ≡ S ∖ 2 ^ d → rest < S
lowest-less S d rest f e q =
    omega (arith, q, less-add S d (subst (λ (j : ℕ). T (has S j)) (sym e) (lowest-has S f)), pow_pos d)

pub lowest_lt : (k S : ℕ) → S ≢ 0 → S < 2 ^ k → lowest S < k
lowest_lt k S f h = subst (λ (x : ℕ). x < k) (lowest_trailing k S f h) (trailing_at k S f h).1
