-- `strips::fill_narrow` meets its contract: the strips of the targets below d are filled.
-- Assumes nothing.
use Prim.Native.Nat.{◌≤◌}
use lib.ListN.{get_or}
use Rattle.strips.proofs.Filling.{FilledTo}
use Rattle.strips.proofs.fill_narrow.Given as goal

abbrev pub invariant-loop-disk : goal.invariant-loop-disk
invariant-loop-disk l = (l.disk ≤ l.n) × FilledTo l.n l.l (λ i. get_or l.sets i 0) l.targets l.initial.s l.disk l.s
