-- `strip_lanes::lanes::splat` meets its contract: the bit is stored lane by lane.
-- Assumes nothing.
use mathlib.Core.Path.{◌≡◌, refl}
use Rattle.strip_blocks.proofs.Runs.{run_byte, run_all}
use borrow.Author.Rules.{rules}
use Rattle.strip_lanes.proofs.lanes.splat.Goals as goal

pub loop-t-preserved : goal.loop-t-preserved
loop-t-preserved c = (search rules, run_byte _ _ _ _ _ _ c.loop-t.invariant.1 (search rules) refl)

pub returns : goal.returns
returns c = let e : c.loop-t.t ≡ 16 = search rules in run_all _ _ _ 16 _ _ c.loop-t.invariant.1 e (search rules)
