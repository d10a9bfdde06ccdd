-- Decimal digits: a number below ten is one digit, a larger one is the digits of its tenth and a last digit; how many there are.
-- Assumes nothing.
use mathlib.Core.Path.{◌≡◌, refl, ap, ◌∙◌}
use mathlib.Core.Logic.{⊎_elim}
use mathlib.Core.List.{List, [], ◌∷◌, ◌++◌}
use Prim.Native.Nat.{ℕ, zero, suc, ◌+◌, ◌*◌, ◌/◌, ◌%◌, ◌^◌, ◌≤◌, ◌<◌, zero-le}
use native.Mathlib.Nat.{pow-succ'}
use native.Mathlib.Omega.{arith}
use lib.ListN.{length, length-append}
use Rattle.gf2.proofs.Tests.{below_or}
use Rattle.text.specs.Decimal.{digits, decimal, spaced}

-- ---- one step

digit : ℕ → List ℕ
digit d = (0x30 + d) ∷ []

-- any bound at or above n gives the same digits
bounds : (a b n : ℕ) → n ≤ a → n ≤ b → digits a n ≡ digits b n
unfolding digits digit
bounds zero zero n p q = refl
bounds zero (suc b) zero p q = refl
bounds zero (suc b) (suc n) p q = absurd (omega arith)
bounds (suc a) zero zero p q = refl
bounds (suc a) zero (suc n) p q = absurd (omega arith)
bounds (suc a) (suc b) zero p q = refl
bounds (suc a) (suc b) (suc n) p q =
    ap (λ (l : List ℕ). l ++ digit (suc n % 10)) (bounds a b (suc n / 10) (omega arith) (omega arith))

-- the digits of a number that is not 0 are its decimal
not-zero : (most n : ℕ) → 0 < n → n ≤ most → digits most n ≡ decimal n
unfolding digits decimal digit
not-zero zero n h p = absurd (omega arith)
not-zero (suc most) zero h p = absurd (omega arith)
not-zero (suc most) (suc n) h p =
    ap (λ (l : List ℕ). l ++ digit (suc n % 10)) (bounds most (suc n) (suc n / 10) (omega arith) (omega arith))

pub decimal-short : (n : ℕ) → n < 10 → decimal n ≡ (0x30 + n) ∷ []
unfolding digits decimal
decimal-short n h =
    let tenth : n / 10 ≡ 0 = omega arith in
    let last : n % 10 ≡ n = omega arith in
    rw (tenth, last, bounds n 0 0 zero-le zero-le)

pub decimal-long : (n : ℕ) → 9 < n → decimal n ≡ decimal (n / 10) ++ ((0x30 + n % 10) ∷ [])
unfolding decimal digit
decimal-long n h = ap (λ (l : List ℕ). l ++ digit (n % 10)) (not-zero n (n / 10) (omega arith) (omega arith))

-- ---- how many digits

pub length-short : (n : ℕ) → n < 10 → length (decimal n) ≡ 1
length-short n h = ap length (decimal-short n h)

pub length-long : (n : ℕ) → 9 < n → length (decimal n) ≡ length (decimal (n / 10)) + 1
length-long n h = ap length (decimal-long n h) ∙ length-append (decimal (n / 10)) ((0x30 + n % 10) ∷ [])

pub length_some : (n : ℕ) → 1 ≤ length (decimal n)
length_some n = ⊎_elim (λ h. omega (arith, length-short n h)) (λ h. omega (arith, length-long n h)) (below_or n 10)

pub length_most : (most n : ℕ) → n < 10 ^ suc most → length (decimal n) ≤ suc most
length_most zero n h = omega (arith, length-short n (omega arith))
length_most (suc most) n h =
    ⊎_elim (λ s. omega (arith, length-short n s))
    (λ l. omega (arith, length-long n l, length_most most (n / 10) (omega (arith, pow-succ' 10 (suc most)))))
    (below_or n 10)

pow_pos : (power : ℕ) → 1 ≤ 10 ^ power
pow_pos zero = omega arith
pow_pos (suc power) = omega (arith, pow-succ' 10 power, pow_pos power)

-- exactly: one more than the power of ten below it
pub length_power : (power n : ℕ) → 10 ^ power ≤ n → n < 10 * 10 ^ power → length (decimal n) ≡ suc power
length_power zero n h l = length-short n (omega arith)
length_power (suc power) n h l =
    let e = pow-succ' 10 power in
    let ten : 9 < n = omega (arith, e, pow_pos power) in
    omega (arith, length-long n ten, length_power power (n / 10) (omega (arith, e)) (omega (arith, e)))

-- a number of the machine has at most 20
pub length-word : (n : ℕ) → n < 2 ^ 64 → length (decimal n) ≤ 20
length-word n h = length_most 19 n (omega arith)

pub length-spaced : (n : ℕ) → length (spaced n) ≡ length (decimal n) + 1
unfolding spaced
length-spaced n = omega arith
