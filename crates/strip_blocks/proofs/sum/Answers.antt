-- `strip_blocks::sum` meets its contract: the block is the XOR of the strips so far.
-- Assumes nothing.
use mathlib.Core.Path.{refl}
use Prim.Native.Nat.{◌+◌, ◌*◌}
use lib.ListN.{get_or}
use Rattle.gf2.specs.Sets.{has, over}
use Rattle.strip_blocks.proofs.Summed.{summed_none, summed_if, over-block}
use borrow.Author.Rules.{rules}
use Rattle.strip_blocks.proofs.sum.Goals as goal

pub loop-i-init : goal.loop-i-init
unfolding over
loop-i-init g c = (search rules, summed_none _ _ _ (λ t. refl))

pub loop-i-preserved : goal.loop-i-preserved
loop-i-preserved g c =
    let a = c.args in
    let lp = c.loop-i in
    (search rules, summed_if g.row.W _ lp.i _ _ (λ t. get_or a.s.now (lp.i * a.l + a.o + t) 0) (has a.set lp.i) lp.invariant.1 c.added_if-block.ensures (over-block a.s.now a.l a.set a.o lp.i))
