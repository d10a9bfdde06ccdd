-- `strip_lanes::fill_over` meets its contract: the strip is the beginning of one block.
-- Assumes nothing.
use Rattle.strip_lanes.proofs.Spreading.{spread-zeros, strip-over}
use borrow.Author.Rules.{rules}
use Rattle.strip_lanes.proofs.fill_over.Goals as goal

pub returns : goal.returns
returns c =
    let a = c.args in
    let lanes = spread-zeros _ _ _ _ _ c.requires.1 c.new-lanes.ensures c.spread.ensures in
    strip-over a.k a.l a.bits.now a.j a.s.now _ _ _ lanes c.requires.0 (search rules) c.sum-block.ensures c.put_first.ensures
