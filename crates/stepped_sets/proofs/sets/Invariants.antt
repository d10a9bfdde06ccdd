-- sets meets its contract. Assumes nothing.
use mathlib.Core.Path.{◌≡◌}
use Rattle.flat.specs.Lists.{tabulate, padded}
use Rattle.stepped_codes.specs.Stepped.{parity_set}
use Rattle.stepped_sets.specs.Distances.{number_of}
use Rattle.stepped_sets.proofs.sets.Given as goal

abbrev pub invariant-loop-i : goal.invariant-loop-i
invariant-loop-i l = l.out ≡ padded 16 (tabulate l.i (parity_set (number_of l.distance) l.m))
