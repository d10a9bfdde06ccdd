-- `strips::fill_narrow` meets its contract: the strips of the targets below d are filled.
-- Assumes nothing.
use mathlib.Core.Path.{sym, ◌∙◌, subst}
use Prim.Native.Nat.{ℕ, ◌+◌, ◌*◌, ◌≤◌}
use native.Mathlib.Omega.{arith}
use lib.ListN.{get_or}
use Rattle.gf2.proofs.Tests.{true-T, false-T}
use Rattle.strip_blocks.proofs.Aside.{aside_room, aside_byte}
use Rattle.strips.proofs.Filling.{FilledTo, filled_skip, filled_aside, filled-all}
use borrow.Author.Rules.{rules}
use Rattle.strips.proofs.fill_narrow.Goals as goal
use Rattle.strips.proofs.fill_narrow.Goals.{else-has, then-has}

pub loop-disk-preserved : goal.loop-disk-preserved
loop-disk-preserved c =
    let room : c.args.n * c.args.l + 16 ≤ 512 =
    aside_room c.args.n c.args.l c.requires.sizes.2 c.requires.sizes.1 in
    let lp = c.loop-disk in
    let a = c.args in
    let E : ℕ → ℕ = λ i. get_or a.sets i 0 in
    elim c.if-has.branch [
      | then-has w ↦ (
        omega arith,
        subst (FilledTo a.n a.l E a.targets a.s.now (lp.disk + 1)) (sym w.s-is)
            (let t = true-T (sym c.has.ensures ∙ w.if-has.true) in
            filled_aside a.n a.l E a.targets a.s.now 16 lp.disk lp.s _ _ w.suited_sum-block.result (search rules) (search rules) lp.invariant.1 t (search rules)
            (omega arith) (λ i h u. c.requires.apart lp.disk i t h u)
            (aside_byte a.n a.l a.s.now _ _ (omega (arith, room)) (search rules) c.copy_first.ensures.local_after) w.suited_sum-block.ensures w.put_first.ensures),
      )
      | else-has w ↦ (
        omega arith,
        subst (FilledTo a.n a.l E a.targets a.s.now (lp.disk + 1)) (sym w.s-is)
            (filled_skip a.n a.l E a.targets a.s.now lp.disk lp.s lp.invariant.1 (false-T (sym c.has.ensures ∙ w.if-has.false))),
      )
    ]

pub returns : goal.returns
returns c =
    let lp = c.loop-disk in
    let a = c.args in
    filled-all a.n a.l (λ i. get_or a.sets i 0) a.targets a.s.now lp.disk lp.s lp.invariant.1 (search rules) (search rules)
