-- columns meets its contract. Assumes nothing.
use mathlib.Core.Path.{◌≡◌}
use Rattle.flat.specs.Lists.{tabulate, padded}
use Rattle.stepped_codes.specs.Stepped.{stepped_column}
use Rattle.stepped_sets.specs.Distances.{number_of}
use Rattle.stepped_card.proofs.columns.Given as goal

abbrev pub invariant-loop-j : goal.invariant-loop-j
invariant-loop-j l = l.out ≡ padded 16 (tabulate l.j (stepped_column (number_of l.fn.distance) l.m l.k))
