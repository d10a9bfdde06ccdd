-- Document 02, request [7]: a card from three numbers, d, m and k.
-- The Stepped Combination code of document 002, section III-C. A data disk's parity set is the set of the parity disks that it goes into;
-- bit j stands for parity disk k + j.
-- Assumes nothing.
use Rattle.std.specs.Prelude.{Bool, ◌&&◌, ◌||◌, List, ℕ, zero, suc, ◌+◌, ◌-◌, ◌*◌, ◌^◌, eqb, leb, ltb, get_or, if◌then◌else◌}
use Rattle.gf2.specs.Sets.{has, size}
use Rattle.flat.specs.Lists.{some, set_of, range, tabulate, filter, ordered_by}
use Rattle.flat.specs.Cards.{Code, code}

-- d is 3 or 4
unfoldable pub distance_ok : ℕ → Bool
distance_ok d = eqb d 3 || eqb d 4

-- sizes go up by 1 for d = 3 and by 2 for d = 4
unfoldable pub step : ℕ → ℕ
step d = if eqb d 3 then 1 else 2

-- is s a size of parity sets: d - 1, or some steps more?
unfoldable pub size_ok : ℕ → ℕ → Bool
unfolding some step
size_ok d s = some (suc s) (λ t. eqb s (d - 1 + t * step d))

-- the parity sets of m parity disks, smaller size first, then smaller number
unfoldable pub parity_sets : ℕ → ℕ → List ℕ
unfolding ordered_by size filter size_ok range
parity_sets d m = ordered_by size (suc m) (filter (λ S. size_ok d (size S)) (range 0 (2 ^ m)))

-- data disk i takes the i-th
unfoldable pub parity_set : ℕ → ℕ → ℕ → ℕ
unfolding parity_sets
parity_set d m i = get_or (parity_sets d m) i 0

-- the column of parity disk k + j: the data disks whose parity set has it
unfoldable pub stepped_column : ℕ → ℕ → ℕ → ℕ → ℕ
unfolding set_of has parity_set
stepped_column d m k j = set_of k (λ i. has (parity_set d m i) j)

unfoldable pub stepped : ℕ → ℕ → ℕ → Code
unfolding tabulate stepped_column
stepped d m k = code k m (tabulate m (stepped_column d m k))

-- how many sets of r of n disks there are, by Pascal's rule: each count from the two above it
unfoldable pub choose : ℕ → ℕ → ℕ
choose zero zero = 1
choose zero (suc r) = 0
choose (suc n) zero = 1
choose (suc n) (suc r) = choose n r + choose n (suc r)

-- 2^(m-1) - m < k ≤ 2^m - m - 1 for d = 3, and 2^(m-2) - m + 1 < k ≤ 2^(m-1) - m for d = 4, times 2 or 4 where the document halves, and
-- with what it takes away on one side added on the other; another d is refused before
unfoldable pub within_bounds : ℕ → ℕ → ℕ → Bool
within_bounds d m k =
    if eqb d 3 then ltb (2 ^ m) (2 * (k + m)) && leb (k + m + 1) (2 ^ m) else
    ltb (2 ^ m + 4) (4 * (k + m)) && leb (2 * (k + m)) (2 ^ m)
