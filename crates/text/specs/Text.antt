-- What a listing prints, as bytes: numbers in decimal, a single space between, each line ended by 0x0A.
-- Assumes nothing.
use Rattle.std.specs.Prelude.{List, [], ◌∷◌, ◌++◌, ℕ}
use Rattle.flat.specs.Lists.{each}
use Rattle.text.specs.Lines.{line, entry_line}

-- the words `code`, `vector` and `refused`
abbrev pub code_word : List ℕ
code_word = 0x63 ∷ 0x6F ∷ 0x64 ∷ 0x65 ∷ []

abbrev pub vector_word : List ℕ
vector_word = 0x76 ∷ 0x65 ∷ 0x63 ∷ 0x74 ∷ 0x6F ∷ 0x72 ∷ []

abbrev pub refused_word : List ℕ
refused_word = 0x72 ∷ 0x65 ∷ 0x66 ∷ 0x75 ∷ 0x73 ∷ 0x65 ∷ 0x64 ∷ []

-- a listing: k and m, each entry, the vector
unfoldable pub listing_text : ℕ → ℕ → List ℕ → List ℕ → List ℕ
listing_text k m entries vs = line code_word (k ∷ m ∷ []) ++ each entry_line entries ++ line vector_word vs

-- a refusal: its number
unfoldable pub refused_text : ℕ → List ℕ
refused_text number = line refused_word (number ∷ [])
