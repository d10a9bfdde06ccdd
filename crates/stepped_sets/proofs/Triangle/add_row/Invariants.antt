-- Triangle::add_row meets its contract: place after place is filled. Assumes nothing.
use mathlib.Core.Path.{◌≡◌}
use Prim.Native.Nat.{◌+◌}
use Rattle.stepped_sets.proofs.Rows.{Filled}
use Rattle.stepped_sets.proofs.Triangle.add_row.Given as goal

abbrev pub invariant-loop-r : goal.invariant-loop-r
invariant-loop-r l = Filled l.self-inside.counts (l.at + l.r) × (l.self-inside.last ≡ l.initial.self-inside.last)
