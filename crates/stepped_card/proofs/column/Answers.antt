-- column meets its contract: after i turns the column has those of the first i data disks whose set has the disk.
-- Assumes nothing.
use mathlib.Core.Path.{refl, sym, ◌∙◌}
use native.Mathlib.Omega.{arith}
use Rattle.gf2.proofs.Made.{set_fits, set_more, set_same}
use Rattle.flat.specs.Lists.{set_of}
use Rattle.stepped_card.proofs.column.Invariants.{named}
use Rattle.stepped_card.proofs.column.Goals as goal
use Rattle.stepped_card.proofs.column.Goals.{else-has, then-has}

pub loop-i-init : goal.loop-i-init
unfolding set_of
loop-i-init c = refl

pub overflow_add-c : goal.overflow_add-c
overflow_add-c c = record { fits = set_fits _ _ (named c.args.sets.now c.args.j) c.loop-i.invariant 16 (omega arith) }

pub loop-i-preserved : goal.loop-i-preserved
loop-i-preserved c =
    let l = c.loop-i in
    let f = named c.args.sets.now c.args.j in
    let h = sym c.has.ensures in
    elim c.if-has.branch [ then-has w ↦ w.c-is ∙ set_more _ _ f l.invariant 16 (omega arith) (h ∙ w.if-has.true) | else-has w ↦ w.c-is ∙ set_same _ _ f l.invariant (h ∙ w.if-has.false) ]
