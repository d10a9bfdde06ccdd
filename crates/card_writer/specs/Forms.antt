-- What stands before the columns of a card, and what the card writer has tested of a card before it looks at the buffer. Nobody has to believe
-- these: the first is the front of `edition_bytes` (flat/specs/Cards.antt), the second says which card has no fault.
-- Assumes nothing.
use Rattle.std.specs.Prelude.{◌≡◌, ◌≤◌, true, false, List, [], ◌∷◌, ℕ, length}
use Rattle.flat.specs.declared.Edition.{Edition}
use Rattle.flat.specs.declared.Edition.TheVariants.{First, Second}
use Rattle.flat.specs.Lists.{member}
use Rattle.flat.specs.Cards.{Code, count_ok, first_bad, wear_count, disks}

unfoldable pub counts : Edition → ℕ → ℕ → List ℕ
counts First k m = k ∷ m ∷ []
counts Second k m = 2 ∷ k ∷ m ∷ []

-- the counts are those of a code, there are as many columns and wears as they call for, no column is bad and no wear 0
abbrev pub Sound : Edition → Code → List ℕ → Type 0
Sound edition C wears =
    (count_ok C.k ≡ true) × (count_ok C.m ≡ true) × (length C.columns ≡ C.m) × (length wears ≡ wear_count edition (disks C))
    × (C.m ≤ first_bad C.k C.columns) × (member 0 wears ≡ false)
