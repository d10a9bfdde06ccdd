-- `strip_vanishing::vanishes_blocks` meets its contract: the bytes of the blocks so far are 0.
-- Assumes nothing.
use Prim.Native.Nat.{◌*◌}
use Rattle.strip_vanishing.proofs.Vanishing.{Vanished}
use Rattle.strip_vanishing.proofs.vanishes_blocks.Given as goal

abbrev pub invariant-loop-b : goal.invariant-loop-b
invariant-loop-b g l = Vanished l.n l.l l.set l.s (l.b * g.row.W)
