-- `least_wear::Weights::fill` meets its contract: the disks below i are in the table.
-- Assumes nothing.
use mathlib.Core.Path.{◌∙◌}
use Rattle.least_wear.proofs.Tables.{table_empty}
use Rattle.least_wear.proofs.Weights.fill.Goals as goal

pub loop-i-init : goal.loop-i-init
loop-i-init c = c.requires.1 ∙ table_empty _
