-- `strip_rows::fill` meets its contract: the strips of the parity disks so far are made.
-- Assumes nothing.
use Prim.Native.Nat.{◌+◌, ◌*◌, ◌≤◌}
use native.Mathlib.Omega.{arith}
use Rattle.flat.proofs.Positions.{strip-within}
use Rattle.strip_products.proofs.Made.{strips-all}
use Rattle.strip_rows.proofs.Rows.{written-more}
use borrow.Author.Rules.{rules}
use Rattle.strip_rows.proofs.fill.Goals as goal

pub overflow_mul-k : goal.overflow_mul-k
overflow_mul-k c =
    let inside : let a = c.args in (a.k + c.loop-j.j) * a.l + a.l ≤ (a.k + a.m) * a.l =
    let a = c.args in strip-within (a.k + c.loop-j.j) (a.k + a.m) a.l (omega arith) in
    omega (arith, inside)

pub loop-j-preserved : goal.loop-j-preserved
loop-j-preserved c =
    let inside : let a = c.args in (a.k + c.loop-j.j) * a.l + a.l ≤ (a.k + a.m) * a.l =
    let a = c.args in strip-within (a.k + c.loop-j.j) (a.k + a.m) a.l (omega arith) in
    let lp = c.loop-j in
    let rows = c.sums-rows in
    let a = c.args in (
      search rules,
      written-more a.k a.l a.bits.now a.s.now rows.result rows.ensures lp.j lp.s _ lp.invariant.1 (omega (arith, c.requires.2))
          (omega (arith, c.requires.3, inside)) c.put_strip.ensures,
    )

pub returns : goal.returns
returns c =
    let lp = c.loop-j in
    let a = c.args in
    strips-all a.k a.l a.bits.now a.s.now lp.j a.m lp.s lp.invariant.1 (search rules) c.requires.3
