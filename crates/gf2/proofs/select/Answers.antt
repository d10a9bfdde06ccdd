-- `gf2::select` meets its contract. The loop has summed the first i rows.
-- Assumes nothing.
use Rattle.std.proofs.Common.{refl, rules, ◌≡◌, arith, length}
use Rattle.gf2.specs.Sets.{over}
use Rattle.gf2.proofs.Loops.{over-step, select_end}
use Rattle.gf2.proofs.select.Goals as goal

pub loop-i-init : goal.loop-i-init
unfolding over
loop-i-init c = refl

pub loop-i-preserved : goal.loop-i-preserved
loop-i-preserved c = search (rules, over-step)

pub returns : goal.returns
returns c =
    let e : length c.args.rows ≡ 16 = search rules in
    select_end c.loop-i.i _ _ _ c.loop-i.invariant (omega arith)
