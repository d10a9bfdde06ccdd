-- `least_wear::least_equation` meets its contract: the tests stand in the documents' order.
-- Assumes nothing.
use mathlib.Core.Path.{sym, ◌∙◌}
use native.Mathlib.Omega.{arith}
use Rattle.gf2.proofs.Bits.{one_shifted}
use Rattle.least_wear.proofs.Laws.{outside, no_disk, none, best}
use Rattle.least_wear.proofs.least_equation.Goals as goal

pub returns-then-not-below : goal.returns-then-not-below
returns-then-not-below c = outside _ _ _ _ _ c.n-n.ensures.value (sym c.below.ensures ∙ c.if-not-below.true)

pub returns-then-n-disk : goal.returns-then-n-disk
returns-then-n-disk c = no_disk _ _ _ _ _ c.n-n.ensures.value (sym c.below.ensures ∙ c.if-not-below.false) (omega (arith, c.if-n-disk.true))

pub returns-then-word-eq0 : goal.returns-then-word-eq0
returns-then-word-eq0 c =
    none _ _ _ _ _ c.n-n.ensures.value (sym c.below.ensures ∙ c.if-not-below.false) (omega (arith, c.if-n-disk.false)) _ _ _ _ _
    (one_shifted c.args.disk (omega arith)) c.survivors-left.ensures c.checks.ensures.value c.within-words.ensures.value c.holder-word.ensures c.if-word-eq0.true

pub returns : goal.returns
returns c =
    best _ _ _ _ _ c.n-n.ensures.value (sym c.below.ensures ∙ c.if-not-below.false) (omega (arith, c.if-n-disk.false)) _ _ _ _ _
    (one_shifted c.args.disk (omega arith)) c.survivors-left.ensures c.checks.ensures.value c.within-words.ensures.value c.holder-word.ensures c.if-word-eq0.false
    c.n-n.ensures.legal c.requires.0 c.requires.1 _ _ _ _ _ c.k.ensures.value c.fill.ensures c.outside.ensures c.within.ensures.value c.walk-least.ensures
