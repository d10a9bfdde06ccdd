-- `strip_vanishing::all_vanish` meets its contract: the words before the next vanish.
-- Assumes nothing.
use mathlib.Core.Path.{sym, ap, ◌∙◌}
use Rattle.flat.specs.Repairs.{all_vanish}
use Rattle.strip_vanishing.proofs.Vanishing.{tested-none, tested-more, tested-not, tested-all}
use Rattle.strip_vanishing.proofs.all_vanish.Goals as goal

pub loop-word-init : goal.loop-word-init
loop-word-init c = tested-none _ _ _ _

pub returns-then-not-strip_vanishes : goal.returns-then-not-strip_vanishes
returns-then-not-strip_vanishes c =
    let at = c.loop-word in
    tested-not _ _ _ _ at.word-index at.invariant c.loop-word-test.true (sym c.strip_vanishes.ensures ∙ c.if-not-strip_vanishes.true)
    ∙ ap (all_vanish _ _ _) c.words-word-items.ensures.value

pub loop-word-preserved : goal.loop-word-preserved
loop-word-preserved c =
    let at = c.loop-word in
    tested-more _ _ _ _ at.word-index at.invariant c.loop-word-test.true (sym c.strip_vanishes.ensures ∙ c.if-not-strip_vanishes.false)

pub returns : goal.returns
returns c =
    let at = c.loop-word in
    tested-all _ _ _ _ at.word-index at.invariant c.loop-word-test.false ∙ ap (all_vanish _ _ _) c.words-word-items.ensures.value
