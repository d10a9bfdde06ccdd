-- `strips::fill_blocks` meets its contract: the strip is written up to the next block, the other strips are as at entry.
-- Assumes nothing.
use mathlib.Core.Path.{◌≡◌, sym, subst}
use Prim.Native.Nat.{ℕ, ◌*◌, ◌/◌}
use native.Mathlib.Omega.{arith}
use Rattle.strip_blocks.proofs.Widths.{block_fits, block_next, blocks_whole, blocks_rest}
use Rattle.strips.proofs.OneStrip.{StripTo, strip-more, strip-all}
use borrow.Author.Rules.{rules}
use Rattle.strips.proofs.fill_blocks.Goals as goal

pub loop-b-preserved : goal.loop-b-preserved
loop-b-preserved g c =
    let lp = c.loop-b in
    let a = c.args in
    let o = lp.b * g.row.W in
    subst (λ (x : ℕ). StripTo a.n a.l a.set a.d a.s.now x c.put.new.s) (sym (block_next g.row.W lp.b))
    (strip-more a.n a.l a.set a.d a.s.now c.requires.apart g.row.W lp.s _ _ o o lp.invariant (omega arith) (omega arith)
    (block_fits a.l g.row.W lp.b (omega arith)) c.requires.sizes.2 c.block-block.ensures c.put.ensures)

pub returns-then-l-ne0 : goal.returns-then-l-ne0
returns-then-l-ne0 g c =
    let lp = c.loop-b in
    let a = c.args in
    let e : lp.b ≡ a.l / g.row.W = search rules in
    let rest = blocks_rest a.l g.row.W lp.b e c.requires.width.0 in
    strip-all a.n a.l a.set a.d a.s.now _ _ (omega (arith, c.requires.width)) c.requires.sizes.2
    (strip-more a.n a.l a.set a.d a.s.now c.requires.apart g.row.W lp.s _ _ (lp.b * g.row.W) _ lp.invariant
    (omega (arith, rest)) (search rules) (search rules) c.requires.sizes.2 c.block-block-then-l-ne0.ensures
    c.put-then-l-ne0.ensures) (search rules)

pub returns-else-l-ne0 : goal.returns-else-l-ne0
returns-else-l-ne0 g c =
    let lp = c.loop-b in
    let a = c.args in
    let e : lp.b ≡ a.l / g.row.W = search rules in
    strip-all a.n a.l a.set a.d a.s.now _ lp.s (omega (arith, c.requires.width)) c.requires.sizes.2 lp.invariant
    (blocks_whole a.l g.row.W lp.b e c.if-l-ne0.false)
