-- What holds of the columns of an accepted card of k data disks and m parity disks, by their bytes: a `Code` is made of such bytes alone.
-- Assumes nothing.
use Rattle.std.specs.Prelude.{◌≡◌, List, ℕ, ◌*◌, ◌^◌, ◌≤◌, ◌<◌, length}
use Rattle.flat.specs.Lists.{field}

-- both counts are 1 to 16, and each column is two bytes and has no bit at k or above
abbrev pub Columns : ℕ → ℕ → List ℕ → Type 0
Columns k m bytes =
    (1 ≤ k) × (k ≤ 16) × (1 ≤ m) × (m ≤ 16) × (length bytes ≡ 2 * m) × ((j : ℕ) → j < m → field (2 * j) 2 bytes < 2 ^ k)
