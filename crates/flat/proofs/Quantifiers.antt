-- Tests over the numbers below a bound; the laws of the sets that are made by a test are passed on.
-- Assumes nothing.
use mathlib.Core.Path.{◌≡◌, refl, sym, ap₂, subst}
use mathlib.Core.Bool.{Bool, true, false, ◌&&◌, ◌||◌}
use mathlib.Core.Logic.{◌⊎◌, inl, inr}
use Prim.Native.Nat.{ℕ, zero, suc, ◌<◌}
use native.Mathlib.Nat.{not-suc-le-zero}
use native.Mathlib.Omega.{arith}
use lib.Dec.{T}
use Rattle.gf2.proofs.Tests.{dec, below_suc}
use Rattle.flat.specs.Lists.{some, every}
pub use Rattle.gf2.proofs.Made.{set_lt, add_power, bit-set, has-set, set_out, set_in, set_is}

-- a number below n with property P, and all of them
abbrev pub Some : ℕ → (ℕ → Type 0) → Type 0
Some n P = (x : ℕ) × (x < n) × P x

abbrev pub All : ℕ → (ℕ → Type 0) → Type 0
All n P = (x : ℕ) → x < n → P x

pub some_in : (n : ℕ) (p : ℕ → Bool) → Some n (λ x. T (p x)) → T (some n p)
unfolding some
some_in zero p s = absurd (not-suc-le-zero s.1)
some_in (suc n) p s = go (some n p) (some_in n p) (below_suc s.0 n s.1)
  where
    go : (b : Bool) → (Some n (λ y. T (p y)) → T b) → (s.0 < n) ⊎ (s.0 ≡ n) → T (b || p n)
    go true rest c = tt
    go false rest (inl m) = absurd (rest (s.0, m, s.2))
    go false rest (inr q) = subst (λ (y : ℕ). T (p y)) q s.2

pub some_out : (n : ℕ) (p : ℕ → Bool) → T (some n p) → Some n (λ x. T (p x))
unfolding some
some_out zero p t = absurd t
some_out (suc n) p t = go (some n p) (some_out n p) t
  where
    go : (b : Bool) → (T b → Some n (λ x. T (p x))) → T (b || p n) → Some (suc n) (λ x. T (p x))
    go true rest u = let r = rest tt in (r.0, omega arith, r.2)
    go false rest u = (n, omega arith, u)

pub every_in : (n : ℕ) (p : ℕ → Bool) → All n (λ x. T (p x)) → T (every n p)
unfolding every
every_in zero p h = tt
every_in (suc n) p h = go (every n p) (every_in n p (λ x l. h x (omega arith)))
  where
    go : (b : Bool) → T b → T (b && p n)
    go true u = h n (omega arith)
    go false u = u

pub every_out : (n : ℕ) (p : ℕ → Bool) → T (every n p) → All n (λ x. T (p x))
unfolding every
every_out zero p t x l = absurd (not-suc-le-zero l)
every_out (suc n) p t x l = go (every n p) (every_out n p) t (below_suc x n l)
  where
    go : (b : Bool) → (T b → All n (λ y. T (p y))) → T (b && p n) → (x < n) ⊎ (x ≡ n) → T (p x)
    go true rest u (inl m) = rest tt x m
    go true rest u (inr q) = subst (λ (y : ℕ). T (p y)) (sym q) u
    go false rest u c = absurd u

pub every_cong : (n : ℕ) (p q : ℕ → Bool) → ((i : ℕ) → i < n → p i ≡ q i) → every n p ≡ every n q
unfolding every
every_cong zero p q h = refl
every_cong (suc n) p q h = ap₂ ◌&&◌ (every_cong n p q (λ i l. h i (omega arith))) (h n (omega arith))

-- some number below n has p, or none
pub find : (n : ℕ) (p : ℕ → Bool) → Some n (λ x. T (p x)) ⊎ All n (λ x. T (p x) → ⊥)
find n p = go (dec (some n p))
  where
    go : T (some n p) ⊎ (T (some n p) → ⊥) → Some n (λ x. T (p x)) ⊎ All n (λ x. T (p x) → ⊥)
    go (inl t) = inl (some_out n p t)
    go (inr f) = inr (λ x l t. f (some_in n p (x, l, t)))
