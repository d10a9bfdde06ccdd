-- `least_wear::Weights::add_disk` meets its contract: the first b sets with the disk are there, each out of that without it.
-- Assumes nothing.
use mathlib.Core.Path.{◌≡◌}
use Prim.Native.Nat.{◌+◌}
use Rattle.least_wear.specs.Forms.{weight_of, table_to}
use Rattle.least_wear.proofs.Weights.add_disk.Given as goal

abbrev pub invariant-loop-b : goal.invariant-loop-b
invariant-loop-b l =
    l.self-inside.table ≡ table_to (weight_of l.k l.wears) (l.at + l.half + l.b)
