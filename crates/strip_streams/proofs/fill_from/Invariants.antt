-- `strip_streams::fill_from` meets its contract: the bytes so far are copied.
-- Assumes nothing.
use Prim.Native.Nat.{◌≤◌}
use Rattle.strip_streams.proofs.Laws.{Streamed}
use Rattle.strip_streams.proofs.fill_from.Given as goal

abbrev pub invariant-loop-t : goal.invariant-loop-t
invariant-loop-t g l = (l.t ≤ l.l) × Streamed g.row.N l.at l.initial.s l.p l.l l.t l.s
