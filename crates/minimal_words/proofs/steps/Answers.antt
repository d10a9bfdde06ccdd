-- `minimal_words::steps` meets its contract: the rows before have their steps in their places, and the sum is that of the rows before.
-- Assumes nothing.
use Rattle.std.proofs.Common.{◌≡◌, ◌<◌, ◌∙◌, ap, arith, rules, length, length-set, append-nil, bit_xor}
use Rattle.std.proofs.lemmas.List.{drop_all}
use Rattle.flat.specs.Lists.{tabulate}
use Rattle.minimal_words.specs.Listed.{step_of}
use Rattle.minimal_words.proofs.Stepping.{steps-none, step-next, place-next, place_more}
use Rattle.minimal_words.proofs.steps.Goals as goal

pub loop-row-init : goal.loop-row-init
unfolding tabulate
loop-row-init c = record { sixteen = search rules; before = search rules; sum = steps-none _ }

pub loop-row-preserved : goal.loop-row-preserved
unfolding step_of
loop-row-preserved c =
    let at = c.loop-row in
    let rows = c.args.rows in
    let l : at.row-index < length rows = search rules in
    let e =
    ap (bit_xor at.sum) (place-next (step_of rows) rows at.row-items at.row-index l at.invariant.before)
    ∙ step-next rows at.row-index at.sum l at.invariant.sum in
    record {
      sixteen = rw length-set at.invariant.sixteen;
      before = place_more (step_of rows) rows at.row-items at.row-index l at.invariant.before _ e;
      sum = e;
    }

pub returns : goal.returns
returns c =
    let at = c.loop-row in
    let rows = c.args.rows in
    let e : length rows ≡ 16 = search rules in
    let n : at.row-index ≡ 16 = omega arith in
    at.invariant.before
    ∙ rw (drop_all at.row-index rows (omega arith), append-nil, n)
