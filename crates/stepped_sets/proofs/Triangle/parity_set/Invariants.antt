-- Triangle::parity_set meets its contract. Assumes nothing.
use mathlib.Core.Path.{◌≡◌}
use Prim.Native.Nat.{◌+◌, ◌-◌}
use Rattle.stepped_codes.specs.Stepped.{choose}
use Rattle.stepped_sets.specs.Distances.{number_of}
use Rattle.stepped_sets.proofs.Finding.{Finding}
use Rattle.stepped_sets.proofs.Triangle.parity_set.Given as goal

abbrev pub invariant-loop-here : goal.invariant-loop-here
invariant-loop-here l = (l.here ≡ choose l.self l.size) × Finding (number_of l.distance) l.self l.i l.size l.left

abbrev pub decreases-loop-here : goal.decreases-loop-here
decreases-loop-here l = l.self + 1 - l.size
