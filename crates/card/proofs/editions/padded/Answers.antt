-- `card::padded` meets its contract.
-- Assumes nothing.
use mathlib.Core.Path.{refl}
use Rattle.card.proofs.Filled.{front_written}
use Rattle.card.proofs.editions.padded.Goals as goal

pub returns : goal.returns
returns c = front_written 32 _ _ _ c.copy_from_slice.ensures.after refl
