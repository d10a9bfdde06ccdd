-- `least_wear::walk` meets its contract: w is the word of the number before x, and the least rank met so far is known.
-- Assumes nothing.
use Rattle.std.proofs.Common.{rules, arith, sym, ap, subst, ◌∙◌, ◌≡◌, ◌+◌, ◌-◌}
use Rattle.gf2.specs.Span.{select}
use Rattle.minimal_words.proofs.Stepping.{word_none}
use Rattle.least_wear.specs.Forms.{LeastOf}
use Rattle.least_wear.proofs.Walks.{step_low, step_word, met, met_first, met_more}
use Rattle.least_wear.proofs.walk.Goals as goal

pub loop-x-init : goal.loop-x-init
loop-x-init c = let a = c.args in (word_none a.words.now, met_first a.weights.now a.set a.words.now _ c.rank-least.ensures)

pub bounds-steps-lowest : goal.bounds-steps-lowest
bounds-steps-lowest c = step_low c.args.words.now c.loop-x.x _ c.rows.ensures.bound (omega arith) (omega arith) c.lowest.ensures.0

pub loop-x-preserved : goal.loop-x-preserved
loop-x-preserved c =
    let a = c.args in
    let at = c.loop-x in
    let one : at.x + 1 - 1 ≡ at.x = omega arith in
    let word = step_word a.words.now at.x _ c.rows.ensures.bound (omega arith) (omega arith) c.lowest.ensures.0 _ _ _ c.rows.ensures.words (search rules)
    c.steps-steps.ensures at.invariant.0 in (
      word ∙ ap (select a.words.now) (sym one),
      subst (LeastOf (met a.weights.now a.set a.words.now) (at.x + 1)) (sym c.min-least.ensures)
          (met_more a.weights.now a.set a.words.now at.x _ _ at.least at.invariant.1 word c.rank.ensures),
    )
