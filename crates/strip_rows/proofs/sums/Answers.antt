-- `strip_rows::sums` meets its contract: the parity bytes from the disks so far.
-- Assumes nothing.
use mathlib.Core.Path.{◌≡◌, subst}
use Prim.Native.Nat.{ℕ, ◌+◌, ◌*◌, ◌≤◌}
use native.Mathlib.Omega.{arith}
use Rattle.flat.proofs.Positions.{strip-within}
use Rattle.strip_rows.proofs.Rows.{Summed, summed_none, summed_more}
use borrow.Author.Rules.{rules}
use Rattle.strip_rows.proofs.sums.Goals as goal

pub loop-i-init : goal.loop-i-init
loop-i-init c = (search rules, summed_none _ _ _)

pub overflow_mul-i : goal.overflow_mul-i
overflow_mul-i c =
    let inside : let a = c.args in c.loop-i.i * a.l + a.l ≤ a.k * a.l =
    let a = c.args in strip-within c.loop-i.i a.k a.l (omega arith) in
    omega (arith, inside)

pub loop-i-preserved : goal.loop-i-preserved
loop-i-preserved c = (search rules, summed_more _ _ _ _ _ _ _ c.loop-i.invariant.1 (search rules) c.add_strip.ensures (search rules))

pub returns : goal.returns
returns c =
    let lp = c.loop-i in
    let a = c.args in
    let e : lp.i ≡ a.k = search rules in
    (subst (λ (i : ℕ). Summed a.s.now a.l a.bits.now i lp.rows) e lp.invariant.1).sums
