-- Where strips lie, by a list of the places where they start.
-- Assumes nothing.
use Rattle.std.specs.Prelude.{◌⊎◌, List, ℕ, ◌+◌, ◌≤◌, ◌<◌, length, get_or}

-- the strips of l bytes at the first count places are in the slice
abbrev pub Inside : List ℕ → ℕ → List ℕ → ℕ → Type 0
Inside s l at count = (j : ℕ) → j < count → get_or at j 0 + l ≤ length s

-- and none meets the l bytes from p on
abbrev pub Apart : ℕ → ℕ → List ℕ → ℕ → Type 0
Apart p l at count = (j : ℕ) → j < count → (get_or at j 0 + l ≤ p) ⊎ (p + l ≤ get_or at j 0)
