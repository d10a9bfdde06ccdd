-- What a pen needs of its buffer, and what it has put.
-- Assumes nothing.
use Rattle.std.specs.Prelude.{◌≡◌, List, ℕ, ◌+◌, ◌≤◌, length}
use Rattle.text.specs.declared.pen.Pen.{Pen}
use Rattle.text.specs.Places.{Put}

-- the bytes l have room in the pen's buffer, from its place on
abbrev pub Room : List ℕ → Pen → Type 0
Room l pen = pen.at + length l ≤ length pen.out.now

-- the pen has put the bytes l at its place and stands behind them, over the same buffer
pub record Wrote (l : List ℕ) (old new : Pen) : Type 0 where
  pub same_buffer : new.out.ghost_name ≡ old.out.ghost_name
  pub put : Put l old.at old.out.now new.out.now new.at
