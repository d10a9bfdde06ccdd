-- The count of named strips, one disk further.
-- Assumes nothing.
use mathlib.Core.Path.{◌≡◌}
use mathlib.Core.Bool.{true, false}
use mathlib.Core.List.{List}
use Prim.Native.Nat.{ℕ, ◌+◌}
use native.Mathlib.Numerals.{add-one}
use native.Mathlib.Omega.{arith}
use lib.ListN.{get_or}
use Rattle.gf2.specs.Sets.{has, size}
use Rattle.strip_dense.specs.Named.{named}

module _ (targets : ℕ) (sets : List ℕ) (d c : ℕ) (e : c ≡ named targets sets d) where
  pub named_more : (v : ℕ) → has targets d ≡ true → v ≡ size (get_or sets d 0) → c + v ≡ named targets sets (d + 1)
  unfolding named
  named_more v t f = rw (add-one, t, e, f)

  pub named-same : has targets d ≡ false → c ≡ named targets sets (d + 1)
  unfolding named
  named-same f = let z : named targets sets d + 0 ≡ named targets sets d = omega arith in rw (add-one, f, z, e)
