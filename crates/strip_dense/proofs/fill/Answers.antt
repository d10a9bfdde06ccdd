-- `strip_dense::fill` meets its contract: the bytes of the strips of the targets below the next block are filled.
-- Assumes nothing.
use mathlib.Core.Path.{◌≡◌, subst}
use Prim.Native.Nat.{ℕ, ◌+◌, ◌-◌, ◌*◌}
use native.Mathlib.Omega.{arith}
use lib.ListN.{get_or}
use Rattle.std.specs.Prelude.{min}
use Rattle.strip_dense.proofs.Patched.{Strips, strips-more, strips-all}
use borrow.Author.Rules.{rules}
use Rattle.strip_dense.proofs.fill.Goals as goal

pub loop-b-preserved : goal.loop-b-preserved
loop-b-preserved c =
    let lp = c.loop-b in
    let a = c.args in
    let E : ℕ → ℕ = λ i. get_or a.sets i 0 in
    let q = c.block_start-start.result in
    let start : q ≡ min (lp.b * 128) (a.l - 128) = c.block_start-start.ensures in
    let end : q + 128 ≡ min ((lp.b + 1) * 128) a.l = omega (arith, start) in (
      c.gather.ensures.local_len,
      subst (λ (x : ℕ). Strips a.n a.l E a.targets a.s.now x c.fill_block.new.s) end
          (strips-more a.n a.l E a.targets a.s.now (min (lp.b * 128) a.l) q lp.s _ _ c.requires.apart lp.invariant.1
          (omega (arith, start)) (omega (arith, start)) (omega (arith, start)) (search rules) c.gather.ensures.by_index c.fill_block.ensures),
    )

pub returns : goal.returns
returns c =
    let lp = c.loop-b in
    let a = c.args in
    let e : min (lp.b * 128) a.l ≡ a.l = omega (arith, c.div_ceil-b-end.ensures) in
    strips-all a.n a.l (λ i. get_or a.sets i 0) a.targets a.s.now (min (lp.b * 128) a.l) lp.s lp.invariant.1 e (search rules)
