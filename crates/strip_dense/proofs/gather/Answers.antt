-- `strip_dense::gather` meets its contract: the blocks of the disks so far are gathered.
-- Assumes nothing.
use mathlib.Core.Path.{◌≡◌, sym, ap, ◌∙◌, subst}
use Prim.Native.Nat.{ℕ, ◌+◌, ◌-◌, ◌*◌}
use native.Mathlib.Omega.{arith}
use lib.ListN.{take, drop, length-drop}
use lib.Seq.{length-take-le}
use Rattle.flat.proofs.Positions.{strip-within}
use Rattle.strip_blocks.proofs.Loops.{part_put}
use Rattle.strip_dense.proofs.Patched.{Gathered, gathered_more}
use borrow.Author.Rules.{rules}
use Rattle.strip_dense.proofs.gather.Goals as goal

pub loop-i-preserved : goal.loop-i-preserved
loop-i-preserved c =
    let a = c.args in
    let lp = c.loop-i in
    let at = lp.i * a.l + a.o in
    let inside = strip-within lp.i a.n a.l (omega arith) in
    let wide : at + 128 - at ≡ 128 = omega arith in
    let long = length-take-le 128 (drop at a.s.now) (omega (arith, inside, length-drop at a.s.now)) in (
      search rules,
      subst (Gathered a.s.now a.l a.o (lp.i + 1)) (sym (part_put (lp.i * 128) _ lp.local _ _ (c.copy_from_slice.ensures.after ∙ ap (λ (k : ℕ). take k (drop at a.s.now)) wide) (omega (arith, long))))
          (gathered_more a.s.now a.l a.o lp.i lp.local lp.invariant.1 (omega arith) (omega (arith, inside))),
    )
