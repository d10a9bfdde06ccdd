-- `bases::row` meets its contract: after j turns the row has its data disk and the first j parity disks that name it.
-- Assumes nothing.
use mathlib.Core.Path.{◌≡◌, ap, ◌∙◌}
use Prim.Native.Nat.{ℕ}
use native.Mathlib.Omega.{arith}
use Rattle.gf2.specs.Sets.{has}
use Rattle.gf2.proofs.Bits.{one_shifted}
use Rattle.flat.specs.Cards.{column}
use Rattle.bases.proofs.Adding.{row-start, row_with, row_without, row_fits, row_end}
use Rattle.bases.proofs.row.Goals as goal
use Rattle.bases.proofs.row.Goals.{else-has, then-has}

pub loop-j-init : goal.loop-j-init
loop-j-init c =
    let i = c.args.i in
    let e = c.k-k.ensures in
    (e.value, one_shifted i (omega (arith, e.legal.1)) ∙ row-start _ i c.requires)

pub overflow_add-row-then-has : goal.overflow_add-row-then-has
overflow_add-row-then-has c =
    let m = c.m-j-end.ensures in
    let l = c.loop-j.invariant in
    record { fits = row_fits _ _ c.loop-j.j _ _ l.0 (omega (arith, l.0, m.value, m.legal.1, m.legal.3)) l.1 }

pub loop-j-preserved : goal.loop-j-preserved
loop-j-preserved c =
    let m = c.m-j-end.ensures in
    let l = c.loop-j.invariant in
    let tested : c.has.result ≡ has (column c.args.code.now c.loop-j.j) c.args.i =
    c.has.ensures ∙ ap (λ (x : ℕ). has x c.args.i) c.column.ensures.value in
    elim c.if-has.branch [
      | then-has w ↦ (l.0, w.row-is ∙ row_with _ _ _ _ _ l.1 tested _ l.0 (omega (arith, l.0, m.value, m.legal.1, m.legal.3)) w.if-has.true)
      | else-has w ↦ (l.0, w.row-is ∙ row_without _ _ _ _ _ l.1 tested w.if-has.false)
    ]

pub returns : goal.returns
returns c = c.loop-j.invariant.1 ∙ row_end _ _ _ (omega (arith, c.m-j-end.ensures.value))
