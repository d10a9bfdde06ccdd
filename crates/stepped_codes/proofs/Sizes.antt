-- The sizes of parity sets: a first one, and steps up from it.
-- Assumes nothing.
use mathlib.Core.Path.{◌≡◌, refl}
use mathlib.Core.Bool.{Bool}
use mathlib.Core.Logic.{◌⊎◌, inl, inr, ⊎_elim}
use Prim.Native.Nat.{ℕ, suc, ◌+◌, ◌*◌, ◌≤◌}
use native.Mathlib.Nat.{mul-suc}
use native.Mathlib.Omega.{arith}
use lib.Dec.{T, eqb}
use Rattle.gf2.proofs.Tests.{dec, T-ext, eqb_in, eqb_out, unless_out}
use Rattle.flat.specs.Lists.{some}
use Rattle.flat.proofs.Quantifiers.{some_in, some_out}
use Rattle.stepped_codes.specs.Stepped.{distance_ok, step, size_ok}
use Rattle.stepped_codes.specs.Theorems.{SizesAre}

-- s is b, or some steps of suc e more
unfoldable pub from : ℕ → ℕ → ℕ → Bool
from b e s = some (suc s) (λ t. eqb s (b + t * suc e))

pub from_in : (b e s t : ℕ) → s ≡ b + t * suc e → T (from b e s)
unfolding from
from_in b e s t h = some_in (suc s) (λ i. eqb s (b + i * suc e)) (t, omega (arith, mul-suc t e), eqb_in h)

pub from_out : (b e s : ℕ) → T (from b e s) → (t : ℕ) × (s ≡ b + t * suc e)
unfolding from
from_out b e s h =
    let r = some_out (suc s) (λ i. eqb s (b + i * suc e)) h in
    (r.0, eqb_out s (b + r.0 * suc e) r.2)

-- one less of each
pub from_suc : (b e s : ℕ) → from (suc b) e (suc s) ≡ from b e s
from_suc b e s =
    T-ext (λ t. let r = from_out (suc b) e (suc s) t in let h = r.1 in from_in b e s r.0 (omega arith))
    (λ t. let r = from_out b e s t in let h = r.1 in from_in (suc b) e (suc s) r.0 (omega arith))

-- ---- d = 3 and d = 4

pub three_or_four : (d : ℕ) → T (distance_ok d) → (d ≡ 3) ⊎ (d ≡ 4)
unfolding distance_ok
three_or_four d h =
    ⊎_elim (λ t. inl (eqb_out d 3 t)) (λ f. inr (eqb_out d 4 (unless_out (eqb d 3) (eqb d 4) h f))) (dec (eqb d 3))

pub distance_in : (d : ℕ) → T (distance_ok d) → (3 ≤ d) × (d ≤ 4)
distance_in d h = ⊎_elim (λ e. (omega arith, omega arith)) (λ e. (omega arith, omega arith)) (three_or_four d h)

pub sizes_three : (s : ℕ) → size_ok 3 s ≡ from 2 0 s
unfolding size_ok step from
sizes_three s = refl

pub sizes_four : (s : ℕ) → size_ok 4 s ≡ from 3 1 s
unfolding size_ok step from
sizes_four s = refl

pub sizes_are : SizesAre
unfolding size_ok step from
sizes_are s = (
  (
    λ h. let r = from_out 2 0 s h in let e = r.1 in (r.0, omega arith),
    λ r. let e = r.1 in from_in 2 0 s r.0 (omega arith),
  ),
  (
    λ h. let r = from_out 3 1 s h in let e = r.1 in (r.0, omega arith),
    λ r. let e = r.1 in from_in 3 1 s r.0 (omega arith),
  ),
)
