-- Document 01, "Two cards alike", as document 02's request [8] has it.
-- Assumes nothing.
use Rattle.std.specs.Prelude.{Bool, ◌&&◌, ℕ, eqb}
use Rattle.flat.specs.Lists.{every, count}
use Rattle.flat.specs.Cards.{Code, column}

-- how many of the code's columns are c
unfoldable pub occurrences : Code → ℕ → ℕ
unfolding count column
occurrences C c = count C.m (λ j. eqb (column C j) c)

-- does each column of A stand as often among B's columns as among A's own?
unfoldable pub as_often : Code → Code → Bool
unfolding every column occurrences
as_often A B = every A.m (λ j. eqb (occurrences A (column A j)) (occurrences B (column A j)))

-- are the columns a rearrangement of each other?
unfoldable pub rearranged : Code → Code → Bool
unfolding as_often
rearranged A B = as_often A B && as_often B A

-- are k and m equal, and the columns a rearrangement of each other?
unfoldable pub alike : Code → Code → Bool
unfolding rearranged
alike A B = eqb A.k B.k && eqb A.m B.m && rearranged A B
