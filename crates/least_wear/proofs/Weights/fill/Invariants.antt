-- `least_wear::Weights::fill` meets its contract: the disks below i are in the table.
-- Assumes nothing.
use mathlib.Core.Path.{◌≡◌}
use Rattle.least_wear.specs.Forms.{weight_of, places_for, table_to}
use Rattle.least_wear.proofs.Weights.fill.Given as goal

abbrev pub invariant-loop-i : goal.invariant-loop-i
invariant-loop-i l = l.self ≡ table_to (weight_of l.k l.wears) (places_for l.i)
