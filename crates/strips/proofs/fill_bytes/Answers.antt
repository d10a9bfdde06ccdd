-- `strips::fill_bytes` meets its contract: the strip is written up to t, the other strips are as at entry.
-- Assumes nothing.
use native.Mathlib.Omega.{arith}
use Rattle.strips.proofs.OneStrip.{strip-more, strip-all}
use borrow.Author.Rules.{rules}
use Rattle.strips.proofs.fill_bytes.Goals as goal

pub loop-t-preserved : goal.loop-t-preserved
loop-t-preserved c =
    let a = c.args in
    let lp = c.loop-t in
    (search rules, strip-more a.n a.l a.set a.d a.s.now c.requires.apart 1 lp.s _ _ lp.t lp.t lp.invariant.1 (omega arith) (omega arith) (omega arith) c.requires.sizes.3 c.sum-block.ensures c.put.ensures)

pub returns : goal.returns
returns c = strip-all _ _ _ _ _ _ _ (search rules) (search rules) c.loop-t.invariant.1 (search rules)
