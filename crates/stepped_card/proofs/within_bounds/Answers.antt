-- within_bounds meets its contract. Assumes nothing.
use native.Mathlib.Omega.{arith}
use Rattle.gf2.proofs.Bits.{one_shifted_in}
use Rattle.stepped_card.proofs.Laws.{three, four, three_low, three_high, four_low, four_high}
use Rattle.stepped_card.proofs.within_bounds.Goals as goal

pub returns-then-all-n : goal.returns-then-all-n
returns-then-all-n c = three_high _ _ _ _ (one_shifted_in 64 _ (omega arith)) (three _ c.in-Three.is) (omega arith)

pub returns-else-all-n : goal.returns-else-all-n
returns-else-all-n c = three_low _ _ _ _ (one_shifted_in 64 _ (omega arith)) _ (grind arith) (three _ c.in-Three.is) (omega arith)

pub returns-then-all-n-2 : goal.returns-then-all-n-2
returns-then-all-n-2 c = four_high _ _ _ _ (one_shifted_in 64 _ (omega arith)) (four _ c.in-Four.is) (omega arith)

pub returns-else-all-n-2 : goal.returns-else-all-n-2
returns-else-all-n-2 c = four_low _ _ _ _ (one_shifted_in 64 _ (omega arith)) _ (search arith) (four _ c.in-Four.is) (omega arith)
