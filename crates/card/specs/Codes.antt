-- What holds of the code of an accepted card.
-- Assumes nothing.
use Rattle.std.specs.Prelude.{◌≡◌, ℕ, ◌^◌, ◌≤◌, ◌<◌, length}
use Rattle.flat.specs.Cards.{Code, column}

-- both counts are 1 to 16, there is a column for each parity disk, and none has a bit at k or above
abbrev pub Legal : Code → Type 0
Legal C =
    (1 ≤ C.k) × (C.k ≤ 16) × (1 ≤ C.m) × (C.m ≤ 16) × (length C.columns ≡ C.m) × ((j : ℕ) → j < C.m → column C j < 2 ^ C.k)
