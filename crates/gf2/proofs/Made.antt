-- Sets made by a test: the disks below n of which p holds, such a set added up disk by disk, and the disks below n that are not in a set.
-- Assumes nothing.
use mathlib.Core.Path.{◌≡◌, refl, sym, ap, ap₂, ◌∙◌, subst}
use mathlib.Core.Bool.{Bool, true, false, not}
use mathlib.Core.Logic.{◌⊎◌, inl, inr}
use Prim.Native.Nat.{ℕ, zero, suc, ◌+◌, ◌*◌, ◌%◌, ◌^◌, ◌≤◌, ◌<◌}
use native.Mathlib.Nat.{not-suc-le-zero, pow-suc, add-zero, lt_irrefl, lt_of_lt_of_le}
use native.Mathlib.Numerals.{add-one}
use native.Mathlib.Omega.{arith}
use lib.Dec.{T}
use lib.Pow.{pow_pos, pow_mono}
use lib.Bits.{xor_disjoint, and_comm, and_shifted}
use Rattle.std.specs.Prelude.{if◌then◌else◌}
use Rattle.gf2.specs.Sets.{bit, has, first, set_of, ◌⊕◌, ◌∖◌}
use Rattle.gf2.proofs.Tests.{T-ext, not_in, not_out, ltb_in, ltb_out, below_suc, below_or}
use Rattle.gf2.proofs.Bits.{bit_lt, bit_above, bit-⊕, bit-pow-same, bit-pow_other, not-has, has_if, one_shifted_in}
use Rattle.gf2.proofs.Subsets.{same-disks, ∖_in, ∖_out}
use Rattle.gf2.proofs.Unions.{first-has}

pub set_lt : (n : ℕ) (p : ℕ → Bool) → set_of n p < 2 ^ n
unfolding set_of
set_lt zero p = omega arith
set_lt (suc n) p = rw pow-suc (go (p n) (set_lt n p))
  where
    go : (b : Bool) → set_of n p < 2 ^ n → set_of n p + (if b then 2 ^ n else 0) < 2 ^ n * 2
    go true l = omega arith
    go false l = omega (arith, pow_pos n)

-- a power of two added to a smaller number is XORed into it
pub add_power : (n s : ℕ) → s < 2 ^ n → s + 2 ^ n ≡ s ⊕ 2 ^ n
unfolding ◌⊕◌
add_power n s l =
    sym (xor_disjoint s (2 ^ n) (and_comm s (2 ^ n) ∙ (let e : 2 ^ n ≡ 1 * 2 ^ n = omega arith in rw e (and_shifted 1 n s l))))

set-step : (n s i : ℕ) (b : Bool) → s < 2 ^ n → bit (s + (if b then 2 ^ n else 0)) i ≡ (bit s i + (if b then bit (2 ^ n) i else 0)) % 2
set-step n s i true l = ap (λ (x : ℕ). bit x i) (add_power n s l) ∙ bit-⊕ s (2 ^ n) i
set-step n s i false l =
    let z : s + 0 ≡ s = omega arith in
    let h : bit s i < 2 = bit_lt s i in
    ap (λ (x : ℕ). bit x i) z ∙ (let e : bit s i ≡ (bit s i + 0) % 2 = omega arith in e)

-- disk i is in it where p holds of i
pub bit-set : (n : ℕ) (p : ℕ → Bool) (i : ℕ) → i < n → bit (set_of n p) i ≡ (if p i then 1 else 0)
unfolding set_of
bit-set zero p i l = absurd (not-suc-le-zero l)
bit-set (suc n) p i l = set-step n (set_of n p) i (p n) (set_lt n p) ∙ go (below_suc i n l) (bit-set n p i)
  where
    one : (b : Bool) → (0 + (if b then 1 else 0)) % 2 ≡ (if b then 1 else 0)
    one true = refl
    one false = refl

    same : (b c : Bool) → ((if b then 1 else 0) + (if c then 0 else 0)) % 2 ≡ (if b then 1 else 0)
    same true true = refl
    same true false = refl
    same false true = refl
    same false false = refl

    go : (i < n) ⊎ (i ≡ n) → (i < n → bit (set_of n p) i ≡ (if p i then 1 else 0))
        → (bit (set_of n p) i + (if p n then bit (2 ^ n) i else 0)) % 2 ≡ (if p i then 1 else 0)
    go (inl m) rest =
        ap₂ (λ (x y : ℕ). (x + (if p n then y else 0)) % 2) (rest m) (bit-pow_other n i (λ e. lt_irrefl n (subst (λ (y : ℕ). y < n) e m)))
        ∙ same (p i) (p n)
    go (inr q) rest =
        rw q
        (ap₂ (λ (x y : ℕ). (x + (if p n then y else 0)) % 2) (bit_above n (set_of n p) n (set_lt n p) (omega arith)) (bit-pow-same n) ∙ one (p n))

pub has-set : (n : ℕ) (p : ℕ → Bool) (i : ℕ) → i < n → has (set_of n p) i ≡ p i
has-set n p i l = has_if (set_of n p) i (p i) (bit-set n p i l)

-- a member of it is below n, and has p
pub set_out : (n : ℕ) (p : ℕ → Bool) (i : ℕ) → T (has (set_of n p) i) → (i < n) × T (p i)
set_out n p i t = go (below_or i n)
  where
    go : (i < n) ⊎ (n ≤ i) → (i < n) × T (p i)
    go (inl l) = (l, subst T (has-set n p i l) t)
    go (inr l) = absurd (not-has (set_of n p) i (bit_above n (set_of n p) i (set_lt n p) l) t)

pub set_in : (n : ℕ) (p : ℕ → Bool) (i : ℕ) → i < n → T (p i) → T (has (set_of n p) i)
set_in n p i l t = subst T (sym (has-set n p i l)) t

-- the set of the disks that a set below 2 ^ n has is that set
pub set_is : (n S : ℕ) (p : ℕ → Bool) → S < 2 ^ n → ((i : ℕ) → i < n → p i ≡ has S i) → set_of n p ≡ S
set_is n S p h e = same-disks (set_of n p) S (λ i. go i (below_or i n))
  where
    go : (i : ℕ) → (i < n) ⊎ (n ≤ i) → has (set_of n p) i ≡ has S i
    go i (inl l) = has-set n p i l ∙ e i l
    go i (inr l) =
        T-ext (λ t. absurd (not-has (set_of n p) i (bit_above n (set_of n p) i (set_lt n p) l) t)) (λ t. absurd (not-has S i (bit_above n S i h l) t))

-- the same test, in other words
pub set_cong : (n : ℕ) (p q : ℕ → Bool) → ((i : ℕ) → i < n → p i ≡ q i) → set_of n p ≡ set_of n q
set_cong n p q h = set_is n (set_of n q) p (set_lt n q) (λ i l. h i l ∙ sym (has-set n q i l))

-- ---- a set added up disk by disk, in a number of w bits

pub add_fits : (w n s : ℕ) → s < 2 ^ n → n < w → s + 2 ^ n < 2 ^ w
add_fits w n s l h = lt_of_lt_of_le (let z : s + 2 ^ n < 2 ^ suc n = rw pow-suc (omega arith) in z) (pow_mono h)

module _ (n s : ℕ) (p : ℕ → Bool) (so : s ≡ set_of n p) where
  pub set_fits : (w : ℕ) → n < w → s + (1 * 2 ^ n) % 2 ^ w < 2 ^ w
  set_fits w h = rw (so, one_shifted_in w n h) (add_fits w n (set_of n p) (set_lt n p) h)

  pub set_more : (w : ℕ) → n < w → p n ≡ true → s + (1 * 2 ^ n) % 2 ^ w ≡ set_of (n + 1) p
  unfolding set_of
  set_more w h t = rw (add-one, t, one_shifted_in w n h, so)

  pub set_same : p n ≡ false → s ≡ set_of (n + 1) p
  unfolding set_of
  set_same f = rw (add-one, f, so) (sym (add-zero (set_of n p)))

-- ---- the disks below n that are not lost

pub rest-set : (n lost : ℕ) → first n ∖ lost ≡ set_of n (λ i. not (has lost i))
rest-set n lost =
    same-disks (first n ∖ lost) (set_of n (λ i. not (has lost i)))
    (λ i. T-ext
    (λ t. let p = ∖_out (first n) lost i t in
    set_in n (λ j. not (has lost j)) i (ltb_out i n (subst T (first-has n i) p.0)) (not_in (has lost i) p.1))
    (λ t. let p = set_out n (λ j. not (has lost j)) i t in
    ∖_in (first n) lost i (subst T (sym (first-has n i)) (ltb_in p.0)) (not_out (has lost i) p.1)))
