-- `strip_dense::is_dense` meets its contract.
-- Assumes nothing.
use mathlib.Core.Path.{sym, ◌∙◌}
use native.Mathlib.Omega.{arith}
use borrow.Author.Rules.{rules}
use Rattle.strip_dense.specs.Named.{named}
use Rattle.strip_dense.proofs.Named.{named_more, named-same}
use Rattle.strip_dense.proofs.is_dense.Goals as goal
use Rattle.strip_dense.proofs.is_dense.Goals.{else-has, then-has}

pub loop-d-init : goal.loop-d-init
unfolding named
loop-d-init c = search rules

pub loop-d-preserved : goal.loop-d-preserved
loop-d-preserved c =
    let before = c.loop-d.invariant.2 in
    let has-d = c.has.ensures in
    elim c.if-has.branch [ then-has w ↦ (omega (arith, w.named-is), omega (arith, w.named-is), w.named-is ∙ named_more _ _ _ _ before _ (sym has-d ∙ w.if-has.true) w.size.ensures) | else-has w ↦ (omega (arith, w.named-is), omega (arith, w.named-is), w.named-is ∙ named-same _ _ _ _ before (sym has-d ∙ w.if-has.false)) ]
