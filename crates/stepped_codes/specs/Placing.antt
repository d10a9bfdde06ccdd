-- A parity set by its place, found by counts of combinations. Computing code goes by these; nobody has to believe them, since Theorems
-- says what they are and no public contract names them.
-- Assumes nothing.
use Rattle.std.specs.Prelude.{List, [], ◌∷◌, ℕ, zero, suc, ◌+◌, ◌-◌, ◌^◌, ltb, if◌then◌else◌}
use Rattle.flat.specs.Lists.{range, filter}
use Rattle.stepped_codes.specs.Stepped.{size_ok, choose}

-- the i-th of the sets of s disks below m, from the highest disk down: the first choose j s of them lack disk j
unfoldable pub placed : ℕ → ℕ → ℕ → ℕ
unfolding choose
placed zero s i = 0
placed (suc j) s i = if ltb i (choose j s) then placed j s i else 2 ^ j + placed j (s - 1) (i - choose j s)

-- the i-th of the sets of disks below m that have one of these sizes, size by size
unfoldable pub placed_among : ℕ → List ℕ → ℕ → ℕ
unfolding choose placed
placed_among m [] i = 0
placed_among m (s ∷ ss) i = if ltb i (choose m s) then placed m s i else placed_among m ss (i - choose m s)

-- the sizes of parity sets of m disks, smaller first
unfoldable pub sizes : ℕ → ℕ → List ℕ
unfolding filter size_ok range
sizes d m = filter (size_ok d) (range 0 (suc m))
