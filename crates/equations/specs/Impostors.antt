-- Wrong orders of the equations, and a list that tells each from that of document 02, request [6].
-- Assumes nothing.
use Rattle.std.specs.Prelude.{◌≡◌, ◌≢◌, List, [], ◌∷◌, reverse, ℕ, suc, ◌-◌, ◌^◌}
use Rattle.gf2.specs.Sets.{size}
use Rattle.flat.specs.Lists.{ordered_by}
use Rattle.flat.specs.Cards.{Code, code, disks}
use Rattle.flat.specs.Equations.{parity_disks, by_size_and_parities, equations}

-- C1's code, and the least one in which an equation that is smaller than another has more parity disks
abbrev pub C1 : Code
C1 = code 4 3 (7 ∷ 11 ∷ 13 ∷ [])

abbrev pub twins : Code
twins = code 2 2 (3 ∷ 3 ∷ [])

-- C2; then 73, which has one parity disk, before 56, which has two; then 8, a parity disk, before 3, two data disks
pub record Witnesses : Type 0 where
  pub c2 : equations C1 0 ≡ 22 ∷ 42 ∷ 76 ∷ 112 ∷ []
  pub fewer : equations C1 2 ≡ 19 ∷ 73 ∷ 56 ∷ 98 ∷ []
  pub smaller : equations twins 2 ≡ 8 ∷ 3 ∷ []

-- put in this order, the equations of disk d come out as this list, which is not theirs
abbrev pub Misordered : (Code → List ℕ → List ℕ) → Code → ℕ → List ℕ → Type 0
Misordered order C d list = (order C (equations C d) ≡ list) × (equations C d ≢ list)

-- document 01's order, by size and then by set number: C2 is the same, and 56 would come before 73
unfoldable pub by_size_and_number : Code → List ℕ → List ℕ
unfolding ordered_by size disks
by_size_and_number C Es = ordered_by size (suc (disks C)) (ordered_by (λ E. E) (2 ^ disks C) Es)

abbrev pub NotBySizeAndNumber : Type 0
NotBySizeAndNumber = (by_size_and_number C1 (equations C1 0) ≡ equations C1 0) × Misordered by_size_and_number C1 2 (19 ∷ 56 ∷ 73 ∷ 98 ∷ [])

-- more parity disks first: 112 would be C2's first
unfoldable pub by_more_parities : Code → List ℕ → List ℕ
unfolding ordered_by size disks parity_disks
by_more_parities C Es = ordered_by size (suc (disks C)) (ordered_by (λ E. C.m - parity_disks C E) (suc C.m) Es)

abbrev pub NotByMoreParities : Type 0
NotByMoreParities = Misordered by_more_parities C1 0 (112 ∷ 22 ∷ 42 ∷ 76 ∷ [])

-- parity disks before size: 3 would come before 8
unfoldable pub by_parities_and_size : Code → List ℕ → List ℕ
unfolding ordered_by size disks parity_disks
by_parities_and_size C Es = ordered_by (parity_disks C) (suc C.m) (ordered_by size (suc (disks C)) Es)

abbrev pub NotByParitiesAndSize : Type 0
NotByParitiesAndSize = Misordered by_parities_and_size twins 2 (3 ∷ 8 ∷ [])

-- larger set number first where the rest is equal: 76 would be C2's first
unfoldable pub by_larger_number : Code → List ℕ → List ℕ
unfolding by_size_and_parities
by_larger_number C Es = by_size_and_parities C (reverse Es)

abbrev pub NotByLargerNumber : Type 0
NotByLargerNumber = Misordered by_larger_number C1 0 (76 ∷ 42 ∷ 22 ∷ 112 ∷ [])
