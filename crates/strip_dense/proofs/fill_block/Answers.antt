-- `strip_dense::fill_block` meets its contract: the blocks of the targets below d are filled.
-- Assumes nothing.
use mathlib.Core.Path.{◌≡◌, sym, ◌∙◌, subst}
use Prim.Native.Nat.{ℕ, ◌+◌, ◌*◌, ◌≤◌}
use native.Mathlib.Omega.{arith}
use lib.ListN.{get_or}
use Rattle.gf2.proofs.Tests.{true-T, false-T}
use Rattle.flat.proofs.Positions.{strip-within}
use Rattle.strip_dense.proofs.Patched.{Blocks, block_skip, block_more, block-all}
use borrow.Author.Rules.{rules}
use Rattle.strip_dense.proofs.fill_block.Goals as goal
use Rattle.strip_dense.proofs.fill_block.Goals.{else-has, then-has}

pub loop-d-preserved : goal.loop-d-preserved
loop-d-preserved c =
    let inside : c.loop-d.d * c.args.l + c.args.l ≤ c.args.n * c.args.l =
    strip-within c.loop-d.d c.args.n c.args.l (omega arith) in
    let lp = c.loop-d in
    let a = c.args in
    let E : ℕ → ℕ = λ i. get_or a.sets i 0 in
    elim c.if-has.branch [
      | then-has w ↦ (
        omega arith,
        subst (Blocks a.n a.l E a.targets a.s.now a.local.now a.o (lp.d + 1)) (sym (w.s-is ∙ w.put.ensures))
            (block_more a.n a.l E a.targets a.s.now a.local.now a.o lp.d lp.s w.sum-block.result lp.invariant.1
            (true-T (sym c.has.ensures ∙ w.if-has.true)) (search rules) (omega (arith, inside)) w.sum-block.ensures),
      )
      | else-has w ↦ (
        omega arith,
        subst (Blocks a.n a.l E a.targets a.s.now a.local.now a.o (lp.d + 1)) (sym w.s-is)
            (block_skip a.n a.l E a.targets a.s.now a.local.now a.o lp.d lp.s lp.invariant.1 (false-T (sym c.has.ensures ∙ w.if-has.false))),
      )
    ]

pub returns : goal.returns
returns c =
    let lp = c.loop-d in
    let a = c.args in
    let e : lp.d ≡ a.n = search rules in
    block-all a.n a.l (λ i. get_or a.sets i 0) a.targets a.s.now a.local.now a.o lp.d lp.s lp.invariant.1 e (search rules)
