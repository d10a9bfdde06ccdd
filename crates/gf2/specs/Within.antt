-- The words of a span that lie inside a set: the one elimination of the engine. What it means stands in Theorems.
-- Assumes nothing.
use Rattle.std.specs.Prelude.{List, [], ◌∷◌, map, ℕ, zero, suc, length, if◌then◌else◌}
use Rattle.std.specs.Int.Count.{count_trailing_zeros}
use Rattle.gf2.specs.Sets.{has, ◌⊕◌, ◌∖◌, ◌⊆◌}

-- the lowest disk of a set that is not empty; a number has fewer digits than its value
unfoldable pub lowest : ℕ → ℕ
unfolding count_trailing_zeros
lowest S = count_trailing_zeros S S

-- v, XORed with b where it holds disk d
unfoldable pub clear : ℕ → ℕ → ℕ → ℕ
unfolding has ◌⊕◌
clear d b v = if has v d then v ⊕ b else v

-- The first n rows, one after the other: a row inside S is kept; a row with a disk outside S is dropped, after its lowest
-- such disk has been cleared from the later rows by XORing the row into those that hold it.
abbrev pub reduced : ℕ → ℕ → List ℕ → List ℕ
reduced S zero bs = []
reduced S (suc n) [] = []
reduced S (suc n) (b ∷ bs) = if b ⊆ S then b ∷ reduced S n bs else reduced S n (map (clear (lowest (b ∖ S)) b) bs)

unfoldable pub within : ℕ → List ℕ → List ℕ
unfolding ◌⊆◌ ◌∖◌ lowest clear
within S bs = reduced S (length bs) bs
