-- Bytes put into a buffer at a place, by the functions that write piece by piece.
-- Assumes nothing.
use Rattle.std.specs.Prelude.{◌≡◌, List, ℕ, ◌+◌, length}
use Rattle.std.proofs.lemmas.List.Edits.{sets}

-- the bytes l stand in the buffer from the place `at` on, the rest is as it was, and the next place is the one after them
pub record Put (l : List ℕ) (at : ℕ) (old new : List ℕ) (next : ℕ) : Type 0 where
  pub place : next ≡ at + length l
  pub bytes : new ≡ sets old at l
