-- `strips::fill_bytes` meets its contract: the strip is written up to t, the other strips are as at entry.
-- Assumes nothing.
use Prim.Native.Nat.{◌≤◌}
use Rattle.strips.proofs.OneStrip.{StripTo}
use Rattle.strips.proofs.fill_bytes.Given as goal

abbrev pub invariant-loop-t : goal.invariant-loop-t
invariant-loop-t l = (l.t ≤ l.l) × StripTo l.n l.l l.set l.d l.initial.s l.t l.s
