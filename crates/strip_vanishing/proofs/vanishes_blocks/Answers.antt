-- `strip_vanishing::vanishes_blocks` meets its contract: the bytes of the blocks so far are 0.
-- Assumes nothing.
use mathlib.Core.Path.{◌≡◌, sym, subst, ◌∙◌}
use Prim.Native.Nat.{◌*◌, ◌/◌}
use native.Mathlib.Omega.{arith}
use Rattle.strip_blocks.proofs.Widths.{block_fits, block_next, blocks_whole, blocks_rest}
use Rattle.strip_vanishing.proofs.Vanishing.{Vanished, vanished_more, vanished_not, vanished_last, vanished_all}
use borrow.Author.Rules.{rules}
use Rattle.strip_vanishing.proofs.vanishes_blocks.Goals as goal

pub returns-then-not-is_zero : goal.returns-then-not-is_zero
returns-then-not-is_zero g c =
    let lp = c.loop-b in
    let a = c.args in
    let fits = block_fits a.l g.row.W lp.b (omega arith) in
    vanished_not a.n a.l a.set a.s.now g.row.W (lp.b * g.row.W) _ c.block.ensures fits (sym c.is_zero.ensures ∙ c.if-not-is_zero.true)

pub loop-b-preserved : goal.loop-b-preserved
loop-b-preserved g c =
    let lp = c.loop-b in
    let a = c.args in
    subst (Vanished a.n a.l a.set a.s.now) (sym (block_next g.row.W lp.b))
    (vanished_more a.n a.l a.set a.s.now g.row.W (lp.b * g.row.W) (lp.b * g.row.W) _ lp.invariant (omega arith) c.block.ensures (sym c.is_zero.ensures ∙ c.if-not-is_zero.false))

pub returns-then-l-ne0 : goal.returns-then-l-ne0
returns-then-l-ne0 g c =
    let lp = c.loop-b in
    let a = c.args in
    let e : lp.b ≡ a.l / g.row.W = search rules in
    let rest = blocks_rest a.l g.row.W lp.b e c.requires.0 in
    vanished_last a.n a.l a.set a.s.now g.row.W (lp.b * g.row.W) _ _ _ lp.invariant (omega (arith, rest)) (search rules) c.block-then-l-ne0.ensures c.is_zero-then-l-ne0.ensures

pub returns : goal.returns
returns g c =
    let lp = c.loop-b in
    let a = c.args in
    let e : lp.b ≡ a.l / g.row.W = search rules in
    vanished_all a.n a.l a.set a.s.now (lp.b * g.row.W) lp.invariant (omega (arith, blocks_whole a.l g.row.W lp.b e c.if-l-ne0.false))
