-- `gf2::cleared_all` meets its contract. The loop has mapped the function over the rows before.
-- Assumes nothing.
use Rattle.std.proofs.Common.{◌≡◌, ◌∙◌, arith, rules, length, length-set, append-nil}
use Rattle.std.proofs.lemmas.List.{get_or_default, take_all, drop_all}
use Rattle.std.proofs.lemmas.List.Edits.{map_over_more}
use Rattle.gf2.specs.Within.{clear}
use Rattle.gf2.proofs.cleared_all.Goals as goal

pub loop-row-preserved : goal.loop-row-preserved
loop-row-preserved c =
    let at = c.loop-row in
    let a = c.args in
    record {
      sixteen = rw length-set at.invariant.sixteen;
      before = rw c.cleared.ensures
          (map_over_more (clear a.d a.b) a.rows at.row-items at.row-index _ (search rules) at.invariant.before
          (get_or_default at.row-items at.row-index 0 _ (search rules)));
    }

pub returns : goal.returns
returns c =
    let at = c.loop-row in
    let a = c.args in
    let e : length a.rows ≡ 16 = search rules in
    at.invariant.before
    ∙ rw (drop_all at.row-index a.rows (omega arith), take_all at.row-index a.rows (omega arith), append-nil)
