-- `strip_streams::vanishes_from` meets its contract: the OR of the bytes so far is 0 where each of them is.
-- Assumes nothing.
use Prim.Native.Nat.{◌≤◌}
use Rattle.strip_blocks.specs.Totals.{xor_at}
use Rattle.strip_blocks.proofs.Loops.{Any}
use Rattle.strip_streams.proofs.vanishes_from.Given as goal

abbrev pub invariant-loop-t : goal.invariant-loop-t
invariant-loop-t g l = (l.t ≤ l.l) × Any (xor_at g.row.N l.at l.s) l.t l.any
