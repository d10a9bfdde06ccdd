-- Laws of `choose`, Pascal's rule, and of `placed`, which goes by it.
-- Assumes nothing.
use mathlib.Core.Path.{◌≡◌, refl}
use mathlib.Core.Bool.{Bool, true, false}
use Prim.Native.Nat.{ℕ, zero, suc, ◌+◌, ◌-◌, ◌*◌, ◌^◌, ◌≤◌, ◌<◌}
use native.Mathlib.Nat.{pow-suc}
use native.Mathlib.Omega.{arith}
use borrow.Author.Tests.{lt-ltb, le-ltb}
use lib.Dec.{ltb}
use Rattle.std.specs.Prelude.{if◌then◌else◌}
use Rattle.stepped_codes.specs.Stepped.{choose}
use Rattle.stepped_codes.specs.Placing.{placed}

-- ---- choose

pub choose-none : (n : ℕ) → choose n 0 ≡ 1
unfolding choose
choose-none zero = refl
choose-none (suc n) = refl

pub choose-suc : (n r : ℕ) → choose (suc n) (suc r) ≡ choose n r + choose n (suc r)
unfolding choose
choose-suc n r = refl

pub choose_pos : (n s : ℕ) → s ≤ n → 1 ≤ choose n s
unfolding choose
choose_pos zero zero l = omega arith
choose_pos zero (suc s) l = absurd (omega arith)
choose_pos (suc n) zero l = omega arith
choose_pos (suc n) (suc s) l = omega (arith, choose_pos n s (omega arith))

pub choose_above : (n s : ℕ) → n < s → choose n s ≡ 0
unfolding choose
choose_above n zero l = absurd (omega arith)
choose_above zero (suc s) l = refl
choose_above (suc n) (suc s) l = omega (arith, choose_above n s (omega arith), choose_above n (suc s) (omega arith))

-- ---- placed

pub placed_lt : (m s i : ℕ) → placed m s i < 2 ^ m
unfolding placed
placed_lt zero s i = omega arith
placed_lt (suc j) s i = rw pow-suc (go (ltb i (choose j s)) (placed_lt j s i) (placed_lt j (s - 1) (i - choose j s)))
  where
    go : (b : Bool) → placed j s i < 2 ^ j → placed j (s - 1) (i - choose j s) < 2 ^ j
        → (if b then placed j s i else 2 ^ j + placed j (s - 1) (i - choose j s)) < 2 ^ j * 2
    go true p q = omega arith
    go false p q = omega arith

pub placed_lacks : (j s i : ℕ) → i < choose j s → placed (suc j) s i ≡ placed j s i
unfolding placed
placed_lacks j s i l = rw (lt-ltb i (choose j s) l)

pub placed-has : (j s i : ℕ) → choose j s ≤ i → placed (suc j) s i ≡ 2 ^ j + placed j (s - 1) (i - choose j s)
unfolding placed
placed-has j s i l = rw (le-ltb i (choose j s) l)
