-- `strip_streams::byte` meets its contract: the byte is the XOR of the strips so far.
-- Assumes nothing.
use mathlib.Core.Path.{refl}
use Rattle.gf2.specs.Sets.{◌⊕◌}
use Rattle.strip_blocks.specs.Totals.{total}
use Rattle.strip_streams.proofs.Laws.{xor-more}
use Rattle.strip_streams.proofs.byte.Goals as goal

pub loop-j-init : goal.loop-j-init
unfolding total
loop-j-init g c = refl

pub loop-j-preserved : goal.loop-j-preserved
unfolding ◌⊕◌
loop-j-preserved g c =
    let lp = c.loop-j in
    let a = c.args in
    xor-more lp.j a.at.now a.s.now a.t lp.byte _ lp.invariant refl
