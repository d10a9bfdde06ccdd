-- `peeler::next` meets its contract: after some turns what the checks before give is found.
-- Assumes nothing.
use mathlib.Core.Path.{refl, sym, ap, ap₂, ◌∙◌}
use Prim.Native.Nat.{ℕ}
use Rattle.gf2.specs.Sets.{◌∩◌}
use Rattle.peeler.specs.Forms.{Found, found}
use Rattle.peeler.proofs.Passing.{pass_better, pass_older}
use Rattle.peeler.proofs.next.Goals as goal
use Rattle.peeler.proofs.next.Goals.{else-better, then-better}

pub loop-check-init : goal.loop-check-init
unfolding found
loop-check-init c = refl

pub loop-check-preserved : goal.loop-check-preserved
unfolding ◌∩◌
loop-check-preserved c =
    let at = c.loop-check in
    let checks = c.words-check-items.result.now in
    let disk-is = ap (λ (r : Found). r.set) at.invariant in
    elim c.if-better.branch [
      | then-better w ↦
          ap₂ (λ (x y : ℕ). record { set = x; word = y }) w.disk-is w.word-is
          ∙ pass_better checks c.args.left at.check-index at.disk disk-is (sym c.better.ensures ∙ w.if-better.true)
      | else-better w ↦
          ap₂ (λ (x y : ℕ). record { set = x; word = y }) w.disk-is w.word-is ∙ at.invariant
          ∙ pass_older checks c.args.left at.check-index at.disk disk-is (sym c.better.ensures ∙ w.if-better.false)
    ]
