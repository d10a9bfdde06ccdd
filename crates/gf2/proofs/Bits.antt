-- Bits of a number: of 0, of a power of two, of an XOR and of a common part; and numbers with the same bits are equal.
-- Assumes nothing.
use mathlib.Core.Path.{◌≡◌, refl, sym, ap, ◌∙◌}
use mathlib.Core.Bool.{Bool, true, false}
use mathlib.Core.Logic.{◌⊎◌, inl, inr, ◌≢◌}
use Prim.Native.Nat.{ℕ, zero, suc, ◌+◌, ◌-◌, ◌*◌, ◌/◌, ◌%◌, ◌^◌, ◌≤◌, ◌<◌}
use native.Mathlib.Nat.{mod-lt, zero-lt-suc, pow-suc, mul_comm, div-div-eq-div-mul, div-one, div-eq_of_lt, div-lt_iff_lt-mul, zero-div, lt_of_lt_of_le, mul-div_cancel, mul-mod_left, one-mul}
use native.Mathlib.Omega.{arith}
use lib.Arith.{lt-one}
use lib.Bits.{bit_and, bit_xor, and_shr, and_mod, xor_shr, xor_mod, and_mask}
use lib.Dec.{T, eqb, lit<}
use lib.Pow.{pow_mono, shl_exact, shr-shr, field, mod-mod-pow}
use Rattle.std.specs.Prelude.{if◌then◌else◌}
use Rattle.gf2.specs.Sets.{bit, has, ◌∩◌, ◌⊕◌}
use Rattle.gf2.proofs.Tests.{dec, eqb_in, eqb_out, T_true, T_false}

two_pos : zero < 2
two_pos = zero-lt-suc 1

pub bit_lt : (n i : ℕ) → bit n i < 2
unfolding bit
bit_lt n i = mod-lt (n / 2 ^ i) two_pos

-- by cases on a digit
pub two_cases : (b : ℕ) → b < 2 → (b ≡ 0) ⊎ (b ≡ 1)
two_cases zero h = inl refl
two_cases (suc zero) h = inr refl
two_cases (suc (suc b)) h = absurd (omega arith)

-- what holds of the four pairs of digits holds of any two
pub by_digits : (P : ℕ → ℕ → Type 0) → P 0 0 → P 0 1 → P 1 0 → P 1 1 → (a b : ℕ) → a < 2 → b < 2 → P a b
by_digits P p q r s zero zero h k = p
by_digits P p q r s zero (suc zero) h k = q
by_digits P p q r s (suc zero) zero h k = r
by_digits P p q r s (suc zero) (suc zero) h k = s
by_digits P p q r s zero (suc (suc b)) h k = absurd (omega arith)
by_digits P p q r s (suc zero) (suc (suc b)) h k = absurd (omega arith)
by_digits P p q r s (suc (suc a)) b h k = absurd (omega arith)

pub bit_cases : (n i : ℕ) → (bit n i ≡ 0) ⊎ (bit n i ≡ 1)
bit_cases n i = two_cases (bit n i) (bit_lt n i)

-- ---- along a number's digits

pub bit-low : (n : ℕ) → bit n 0 ≡ n % 2
unfolding bit
bit-low n = ap (λ (x : ℕ). x % 2) (div-one n)

pub bit-suc : (n i : ℕ) → bit n (suc i) ≡ bit (n / 2) i
unfolding bit
bit-suc n i =
    ap (λ (x : ℕ). x % 2) (ap (λ (x : ℕ). n / x) (pow-suc 2 i ∙ mul_comm (2 ^ i) 2) ∙ sym (div-div-eq-div-mul n 2 (2 ^ i)))

pub half_lt : (k n : ℕ) → n < 2 ^ suc k → n / 2 < 2 ^ k
half_lt k n h = (div-lt_iff_lt-mul two_pos).1 (rw pow-suc at h)

pub bit-of-zero : (i : ℕ) → bit 0 i ≡ 0
unfolding bit
bit-of-zero i = ap (λ (x : ℕ). x % 2) (zero-div (2 ^ i))

-- a number of k digits has no bit from k on
pub bit_above : (k n i : ℕ) → n < 2 ^ k → k ≤ i → bit n i ≡ 0
unfolding bit
bit_above k n i h l = ap (λ (x : ℕ). x % 2) (div-eq_of_lt (lt_of_lt_of_le h (pow_mono l)))

-- a number's digits from k on, and its k lowest digits
pub bit_shift : (k S j : ℕ) → bit (S / 2 ^ k) j ≡ bit S (k + j)
unfolding bit
bit_shift k S j = ap (λ (x : ℕ). x % 2) (shr-shr S k j)

pub bit-mod : (k S i : ℕ) → i < k → bit (S % 2 ^ k) i ≡ bit S i
unfolding bit
bit-mod k S i l =
    let j = k - suc i in
    let e : k ≡ j + 1 + i = omega arith in
    ap (λ (x : ℕ). S % 2 ^ x / 2 ^ i % 2) e ∙ ap (λ (x : ℕ). x % 2) (field S (j + 1) i) ∙ mod-mod-pow (S / 2 ^ i) j 1

pow-half : (j : ℕ) → 2 ^ suc j / 2 ≡ 2 ^ j
pow-half j = ap (λ (x : ℕ). x / 2) (pow-suc 2 j) ∙ mul-div_cancel (2 ^ j) two_pos

pub bit-pow-same : (j : ℕ) → bit (2 ^ j) j ≡ 1
bit-pow-same zero = bit-low 1
bit-pow-same (suc j) = bit-suc (2 ^ suc j) j ∙ ap (λ (x : ℕ). bit x j) (pow-half j) ∙ bit-pow-same j

pub bit-pow_other : (j i : ℕ) → i ≢ j → bit (2 ^ j) i ≡ 0
bit-pow_other zero zero f = absurd (f refl)
bit-pow_other zero (suc i) f = bit-suc 1 i ∙ bit-of-zero i
bit-pow_other (suc j) zero f =
    bit-low (2 ^ suc j) ∙ ap (λ (x : ℕ). x % 2) (pow-suc 2 j) ∙ mul-mod_left (2 ^ j) 2
bit-pow_other (suc j) (suc i) f =
    bit-suc (2 ^ suc j) i ∙ ap (λ (x : ℕ). bit x i) (pow-half j) ∙ bit-pow_other j i (λ e. f (ap suc e))

pub bit-pow : (j i : ℕ) → bit (2 ^ j) i ≡ (if eqb i j then 1 else 0)
bit-pow j i = go (dec (eqb i j))
  where
    go : T (eqb i j) ⊎ (T (eqb i j) → ⊥) → bit (2 ^ j) i ≡ (if eqb i j then 1 else 0)
    go (inl t) = rw (T_true {b = eqb i j} t) (ap (bit (2 ^ j)) (eqb_out i j t) ∙ bit-pow-same j)
    go (inr f) = rw (T_false {b = eqb i j} f) (bit-pow_other j i (λ e. f (eqb_in e)))

-- ---- the operations on sets, bit by bit

xor_digit : (a b : ℕ) → a < 2 → b < 2 → bit_xor a b ≡ (a + b) % 2
xor_digit = by_digits (λ (a b : ℕ). bit_xor a b ≡ (a + b) % 2) refl refl refl refl

pub bit-⊕ : (a b i : ℕ) → bit (a ⊕ b) i ≡ (bit a i + bit b i) % 2
unfolding bit ◌⊕◌
bit-⊕ a b i =
    ap (λ (x : ℕ). x % 2) (xor_shr a b i) ∙ xor_mod (a / 2 ^ i) (b / 2 ^ i) 1
    ∙ xor_digit (a / 2 ^ i % 2) (b / 2 ^ i % 2) (bit_lt a i) (bit_lt b i)

-- the same, with the bits' XOR
pub bit-⊕_bits : (a b i : ℕ) → bit (a ⊕ b) i ≡ bit a i ⊕ bit b i
unfolding ◌⊕◌
bit-⊕_bits a b i = bit-⊕ a b i ∙ sym (xor_digit (bit a i) (bit b i) (bit_lt a i) (bit_lt b i))

and_digit : (a b : ℕ) → a < 2 → b < 2 → bit_and a b ≡ a * b
and_digit = by_digits (λ (a b : ℕ). bit_and a b ≡ a * b) refl refl refl refl

pub bit-∩ : (a b i : ℕ) → bit (a ∩ b) i ≡ bit a i * bit b i
unfolding bit ◌∩◌
bit-∩ a b i =
    ap (λ (x : ℕ). x % 2) (and_shr a b i) ∙ and_mod (a / 2 ^ i) (b / 2 ^ i) 1
    ∙ and_digit (a / 2 ^ i % 2) (b / 2 ^ i % 2) (bit_lt a i) (bit_lt b i)

-- ---- numbers with the same bits are equal

pub ext_below : (n a b : ℕ) → a < 2 ^ n → b < 2 ^ n → ((i : ℕ) → i < n → bit a i ≡ bit b i) → a ≡ b
ext_below zero a b ha hb e = lt-one ha ∙ sym (lt-one hb)
ext_below (suc n) a b ha hb e =
    let rest : (i : ℕ) → i < n → bit (a / 2) i ≡ bit (b / 2) i = λ i h. sym (bit-suc a i) ∙ e (suc i) (omega arith) ∙ bit-suc b i in
    let half : a / 2 ≡ b / 2 = ext_below n (a / 2) (b / 2) (half_lt n a ha) (half_lt n b hb) rest in
    let low : a % 2 ≡ b % 2 = sym (bit-low a) ∙ e 0 (omega arith) ∙ bit-low b in
    omega arith

-- a number has fewer digits than its value
pub lt_pow : (n : ℕ) → n < 2 ^ n
lt_pow zero = zero-lt-suc 0
lt_pow (suc n) = rw pow-suc (let h = lt_pow n in omega arith)

pub ext : (a b : ℕ) → ((i : ℕ) → bit a i ≡ bit b i) → a ≡ b
ext a b e =
    let l : a ≤ a + b = omega arith in
    let r : b ≤ a + b = omega arith in
    ext_below (a + b) a b (lt_of_lt_of_le (lt_pow a) (pow_mono l)) (lt_of_lt_of_le (lt_pow b) (pow_mono r)) (λ i h. e i)

-- ---- a bit as a test

pub has_in : (S i : ℕ) → bit S i ≡ 1 → T (has S i)
unfolding has
has_in S i e = eqb_in e

pub has_out : (S i : ℕ) → T (has S i) → bit S i ≡ 1
unfolding has
has_out S i t = eqb_out (bit S i) 1 t

-- a bit that is not 1 is 0, and the other way round
pub has-not : (S i : ℕ) → (T (has S i) → ⊥) → bit S i ≡ 0
has-not S i f = go (bit_cases S i)
  where
    go : (bit S i ≡ 0) ⊎ (bit S i ≡ 1) → bit S i ≡ 0
    go (inl e) = e
    go (inr e) = absurd (f (has_in S i e))

pub not-has : (S i : ℕ) → bit S i ≡ 0 → T (has S i) → ⊥
not-has S i e t = let z : bit S i ≡ 1 = has_out S i t in omega arith

-- the empty set has no disk
pub no_disk : (i : ℕ) → T (has 0 i) → ⊥
no_disk i = not-has 0 i (bit-of-zero i)

pub has_pos : (S i : ℕ) → T (has S i) → 1 ≤ S
has_pos zero i t = absurd (no_disk i t)
has_pos (suc S) i t = omega arith

-- the same as the test's value, for `rw`
pub has_one : (S i : ℕ) → bit S i ≡ 1 → has S i ≡ true
has_one S i e = T_true (has_in S i e)

pub has-zero : (S i : ℕ) → bit S i ≡ 0 → has S i ≡ false
has-zero S i e = T_false (not-has S i e)

pub has_if : (S i : ℕ) (b : Bool) → bit S i ≡ (if b then 1 else 0) → has S i ≡ b
has_if S i true e = has_one S i e
has_if S i false e = has-zero S i e

-- the power of two that the code's shift of 1 gives, in numbers of any width and of 32 bits
pub one_shifted_in : (w k : ℕ) → k < w → (1 * 2 ^ k) % 2 ^ w ≡ 2 ^ k
one_shifted_in w k h = shl_exact 1 k w (lit< tt) (omega arith) ∙ one-mul (2 ^ k)

pub one_shifted : (k : ℕ) → k < 32 → (1 * 2 ^ k) % 2 ^ 32 ≡ 2 ^ k
one_shifted = one_shifted_in 32

-- the test of the code
pub bit_test : (S i : ℕ) → eqb (bit_and (S / 2 ^ i) 1) 1 ≡ has S i
unfolding has bit
bit_test S i = ap (λ (x : ℕ). eqb x 1) (and_mask (S / 2 ^ i) 1)
