-- The lines of a listing, as bytes: numbers in decimal, a single space between, each line ended by 0x0A.
-- Assumes nothing.
use Rattle.std.specs.Prelude.{List, [], ◌∷◌, ◌++◌, ℕ}
use Rattle.gf2.specs.Sets.{size}
use Rattle.flat.specs.Lists.{each}
use Rattle.text.specs.Decimal.{decimal, spaced}

abbrev pub line_end : List ℕ
line_end = 0x0A ∷ []

-- a word and its numbers
unfoldable pub line : List ℕ → List ℕ → List ℕ
line word numbers = word ++ each spaced numbers ++ line_end

-- the size of a set and its number
unfoldable pub entry_line : ℕ → List ℕ
entry_line S = decimal (size S) ++ spaced S ++ line_end
