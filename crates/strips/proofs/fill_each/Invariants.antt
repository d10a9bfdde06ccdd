-- `strips::fill_each` meets its contract: the strips of the targets below d are filled.
-- Assumes nothing.
use lib.ListN.{get_or}
use Rattle.strips.proofs.Filling.{FilledTo}
use Rattle.strips.proofs.fill_each.Given as goal

abbrev pub invariant-loop-d : goal.invariant-loop-d
invariant-loop-d l = FilledTo l.n l.l (λ i. get_or l.sets i 0) l.targets l.initial.s l.d l.s
