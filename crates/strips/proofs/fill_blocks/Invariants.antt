-- `strips::fill_blocks` meets its contract: the strip is written up to the next block, the other strips are as at entry.
-- Assumes nothing.
use Prim.Native.Nat.{◌*◌}
use Rattle.strips.proofs.OneStrip.{StripTo}
use Rattle.strips.proofs.fill_blocks.Given as goal

abbrev pub invariant-loop-b : goal.invariant-loop-b
invariant-loop-b g l = StripTo l.n l.l l.set l.d l.initial.s (l.b * g.row.W) l.s
