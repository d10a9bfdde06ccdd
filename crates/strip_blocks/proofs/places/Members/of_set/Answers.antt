-- `strip_blocks::places::Members::of_set` meets its contract: the places of the disks so far, and zeros after them.
-- Assumes nothing.
use mathlib.Core.Path.{◌≡◌, sym, ap, ◌∙◌}
use Prim.Native.Nat.{ℕ, ◌*◌}
use native.Mathlib.Omega.{arith}
use Rattle.gf2.specs.Sets.{over}
use Rattle.gf2.specs.Padded.{none-there}
use Rattle.gf2.proofs.Padded.{rest_more}
use Rattle.strip_blocks.proofs.Placed.{placed-none, placed_skip, placed-more, placed-strips, placed-sums}
use borrow.Author.Rules.{rules}
use Rattle.strip_blocks.proofs.places.Members.of_set.Goals as goal
use Rattle.strip_blocks.proofs.places.Members.of_set.Goals.{else-has, then-has}

pub loop-i-init : goal.loop-i-init
loop-i-init c = (search rules, placed-none _ _ 32 _ _ (search rules), λ j h. none-there 32 j)

pub loop-i-preserved : goal.loop-i-preserved
loop-i-preserved c =
    let lp = c.loop-i in
    let a = c.args in
    elim c.if-has.branch [
      | then-has w ↦ (
        omega arith,
        rw (w.at-is, w.count-is) (placed-more a.set a.n 32 (λ d. d * a.l) lp.i lp.at lp.count lp.invariant.1 (omega arith) c.requires.0 (sym c.has.ensures ∙ w.if-has.true)),
        rw (w.at-is, w.count-is) (rest_more lp.count _ lp.at lp.invariant.2),
      )
      | else-has w ↦ (
        omega arith,
        rw (w.at-is, w.count-is) (placed_skip a.set a.n 32 (λ d. d * a.l) lp.i lp.at lp.count lp.invariant.1 (sym c.has.ensures ∙ w.if-has.false)),
        rw (w.at-is, w.count-is) lp.invariant.2,
      )
    ]

pub invariant_of-result : goal.invariant_of-result
invariant_of-result c =
    let lp = c.loop-i in
    (lp.invariant.1.places, omega (arith, lp.invariant.1.few, c.requires.0), λ j h. lp.invariant.2 j (omega arith))

pub returns-clause-strips : goal.returns-clause-strips
returns-clause-strips c =
    let lp = c.loop-i in
    let a = c.args in
    placed-strips a.set a.n 32 (λ d. d * a.l) lp.i lp.at lp.count lp.invariant.1 (omega (arith, c.requires.0))

pub returns-clause-sums : goal.returns-clause-sums
returns-clause-sums c =
    let lp = c.loop-i in
    let a = c.args in
    let e : lp.i ≡ a.n = search rules in
    λ f. placed-sums a.set a.n 32 (λ d. d * a.l) lp.i lp.at lp.count lp.invariant.1 (omega (arith, c.requires.0)) f
    ∙ ap (λ (i : ℕ). over i a.set (λ d. f (d * a.l))) e
