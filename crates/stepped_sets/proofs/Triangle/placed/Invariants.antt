-- Triangle::placed meets its contract. Assumes nothing.
use Rattle.stepped_sets.proofs.Going.{Going}
use Rattle.stepped_sets.proofs.Triangle.placed.Given as goal

abbrev pub invariant-loop-missing : goal.invariant-loop-missing
invariant-loop-missing l = Going l.self l.size l.i l.set l.missing l.left l.j

abbrev pub decreases-loop-missing : goal.decreases-loop-missing
decreases-loop-missing l = l.j
