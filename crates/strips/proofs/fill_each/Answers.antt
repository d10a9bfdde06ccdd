-- `strips::fill_each` meets its contract: the strips of the targets below d are filled.
-- Assumes nothing.
use mathlib.Core.Path.{sym, ◌∙◌, subst}
use Prim.Native.Nat.{ℕ, ◌+◌}
use lib.ListN.{get_or}
use Rattle.gf2.proofs.Tests.{true-T, false-T}
use Rattle.strips.proofs.Filling.{FilledTo, filled_skip, filled-strip, filled-all}
use borrow.Author.Rules.{rules}
use Rattle.strips.proofs.fill_each.Goals as goal
use Rattle.strips.proofs.fill_each.Goals.{else-has, then-has}

pub loop-d-preserved : goal.loop-d-preserved
loop-d-preserved c =
    let lp = c.loop-d in
    let a = c.args in
    let E : ℕ → ℕ = λ i. get_or a.sets i 0 in
    elim c.if-has.branch [
      | then-has w ↦ let t = true-T (sym c.has.ensures ∙ w.if-has.true) in
          subst (FilledTo a.n a.l E a.targets a.s.now (lp.d + 1)) (sym w.s-is)
          (filled-strip a.n a.l E a.targets a.s.now lp.d lp.s _ (search rules) lp.invariant t (search rules)
          (λ i h u. c.requires.apart lp.d i t h u) w.fill_strip.ensures)
      | else-has w ↦ subst (FilledTo a.n a.l E a.targets a.s.now (lp.d + 1)) (sym w.s-is)
          (filled_skip a.n a.l E a.targets a.s.now lp.d lp.s lp.invariant (false-T (sym c.has.ensures ∙ w.if-has.false)))
    ]

pub returns : goal.returns
returns c =
    let lp = c.loop-d in
    let a = c.args in
    filled-all a.n a.l (λ i. get_or a.sets i 0) a.targets a.s.now lp.d lp.s lp.invariant (search rules) (search rules)
