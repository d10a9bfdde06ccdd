-- A strip length that passed its test, and the length of a stripe of such strips.
-- Assumes nothing.
use mathlib.Core.Path.{◌≡◌}
use mathlib.Core.Bool.{true}
use Prim.Native.Nat.{ℕ, ◌*◌, ◌≤◌}
use native.Mathlib.Nat.{mul-le-mul_right}
use native.Mathlib.Omega.{arith}
use lib.Dec.{leb}
use Rattle.gf2.proofs.Tests.{true-T, and_out, leb_out}
use Rattle.flat.specs.Strips.{length_ok}

pub length_in_lem : (L : ℕ) → length_ok L ≡ true → (1 ≤ L) × (L ≤ 65536)
unfolding length_ok
length_in_lem L e = let p = and_out (leb 1 L) (leb L 65536) (true-T e) in (leb_out 1 L p.0, leb_out L 65536 p.1)

pub stripe-small : (n L : ℕ) → n ≤ 32 → L ≤ 65536 → n * L ≤ 2097152
stripe-small n L h k = omega (arith, mul-le-mul_right L h)
