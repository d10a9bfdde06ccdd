-- `strip_lanes::narrow::put_16` meets its contract: a copy is made byte by byte.
-- Assumes nothing.
use mathlib.Core.Path.{◌≡◌, sym}
use native.Mathlib.Omega.{arith}
use lib.ListN.{length-drop}
use lib.Seq.{get_or-drop}
use Rattle.strip_blocks.proofs.Loops.{copied_more, copied_first}
use borrow.Author.Rules.{rules}
use Rattle.strip_lanes.proofs.narrow.put_16.Goals as goal

pub loop-t-preserved : goal.loop-t-preserved
loop-t-preserved c =
    let lp = c.loop-t in
    let a = c.args in
    (search rules, copied_more _ _ _ _ _ _ lp.invariant.1 (search rules) (omega (arith, length-drop a.from a.sums.now)) (sym (get_or-drop a.from a.sums.now lp.t 0)))

pub returns : goal.returns
returns c =
    let e : c.loop-t.t ≡ 16 = search rules in
    let a = c.args in
    copied_first _ _ _ _ _ 16 c.loop-t.invariant.1 e (omega (arith, length-drop a.from a.sums.now))
