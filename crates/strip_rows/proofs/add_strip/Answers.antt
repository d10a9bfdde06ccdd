-- `strip_rows::add_strip` meets its contract: the bytes so far have gone into their rows.
-- Assumes nothing.
use mathlib.Core.Path.{◌≡◌, ap}
use Prim.Native.Nat.{ℕ, ◌*◌}
use Rattle.strip_blocks.proofs.Runs.{run_all}
use Rattle.strip_rows.proofs.Rows.{added_place, row_more}
use borrow.Author.Rules.{rules}
use Rattle.strip_rows.proofs.add_strip.Goals as goal

pub loop-t-preserved : goal.loop-t-preserved
loop-t-preserved c =
    let a = c.args in
    (search rules, row_more _ a.s.now a.at a.bits.now (a.i * 16) _ _ _ c.loop-t.invariant.1 (search rules) c.add_byte.ensures)

pub returns : goal.returns
returns c =
    let lp = c.loop-t in
    let a = c.args in
    let e : lp.t ≡ a.l = search rules in
    run_all _ 0 (added_place a.rows.now a.s.now a.at a.bits.now (a.i * 16)) _ _ _ lp.invariant.1 (ap (λ (t : ℕ). t * 16) e) (search rules)
