-- The lowest number that passes a test.
-- Assumes nothing.
use mathlib.Core.Bool.{Bool, true, false}
use Prim.Native.Nat.{ℕ, zero, suc, ◌<◌}
use native.Mathlib.Nat.{not-suc-le-zero, suc-le-suc_iff}
use native.Mathlib.Omega.{arith}
use lib.Dec.{T}
use Rattle.std.specs.Prelude.{if◌then◌else◌}
use Rattle.peeling.specs.Peeling.{lowest_of}

-- where some number below n has p, so has the lowest, and it is below n
pub lowest-has : (n : ℕ) (p : ℕ → Bool) (x : ℕ) → x < n → T (p x) → (lowest_of n p < n) × T (p (lowest_of n p))
unfolding lowest_of
lowest-has zero p x l t = absurd (not-suc-le-zero l)
lowest-has (suc n) p x l t = go (p 0) (λ u. u) (λ u. u) x l t (lowest-has n (λ i. p (suc i)))
  where
    go : (b : Bool) → (T b → T (p 0)) → (T (p 0) → T b) → (y : ℕ) → y < suc n → T (p y)
        → ((z : ℕ) → z < n → T (p (suc z)) → (lowest_of n (λ i. p (suc i)) < n) × T (p (suc (lowest_of n (λ i. p (suc i))))))
        → ((if b then 0 else suc (lowest_of n (λ i. p (suc i)))) < suc n) × T (p (if b then 0 else suc (lowest_of n (λ i. p (suc i)))))
    go true f g y m u rec = (omega arith, f tt)
    go false f g zero m u rec = absurd (g u)
    go false f g (suc y) m u rec = let r = rec y (omega arith) u in (let h = r.0 in omega arith, r.1)

-- and none below it has
pub lowest-least : (n : ℕ) (p : ℕ → Bool) (x : ℕ) → x < lowest_of n p → T (p x) → ⊥
unfolding lowest_of
lowest-least zero p x l t = not-suc-le-zero l
lowest-least (suc n) p x l t = go (p 0) (λ u. u) x l t (lowest-least n (λ i. p (suc i)))
  where
    go : (b : Bool) → (T (p 0) → T b) → (y : ℕ) → y < (if b then 0 else suc (lowest_of n (λ i. p (suc i)))) → T (p y)
        → ((z : ℕ) → z < lowest_of n (λ i. p (suc i)) → T (p (suc z)) → ⊥) → ⊥
    go true g y m u rec = not-suc-le-zero m
    go false g zero m u rec = g u
    go false g (suc y) m u rec = rec y (suc-le-suc_iff.0 m) u
