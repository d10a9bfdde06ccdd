-- `strip_steady::fill_each` meets its contract: the strips of the parity disks so far are made.
-- Assumes nothing.
use mathlib.Core.Path.{◌≡◌}
use Prim.Native.Nat.{◌+◌}
use native.Mathlib.Omega.{arith}
use Rattle.flat.proofs.Positions.{strip-within}
use Rattle.strip_products.proofs.Made.{strips-more, strips-all}
use borrow.Author.Rules.{rules}
use Rattle.strip_steady.proofs.fill_each.Goals as goal

pub loop-j-preserved : goal.loop-j-preserved
loop-j-preserved c =
    let a = c.args in (
      search rules,
      strips-more a.k a.l a.bits.now a.s.now _ _ _ c.loop-j.invariant.1
          (omega (arith, strip-within (a.k + c.loop-j.j) (a.k + a.m) a.l (search rules))) c.fill_strip.ensures,
    )

pub returns : goal.returns
returns c =
    let lp = c.loop-j in
    let a = c.args in
    let e : lp.j ≡ a.m = search rules in
    strips-all a.k a.l a.bits.now a.s.now _ a.m _ lp.invariant.1 e (search rules)
