-- `strip_steady::gathered::fill` meets its contract: the bytes of the parity strips below the next block are made.
-- Assumes nothing.
use mathlib.Core.Path.{◌≡◌, subst}
use Prim.Native.Nat.{ℕ, ◌+◌, ◌-◌, ◌*◌}
use native.Mathlib.Omega.{arith}
use Rattle.std.specs.Prelude.{min}
use Rattle.strip_steady.proofs.Offsets.{OffsetsTo, offsets_more, offsets_all}
use borrow.Author.Rules.{rules}
use Rattle.strip_steady.proofs.gathered.fill.Goals as goal

pub loop-b-preserved : goal.loop-b-preserved
loop-b-preserved c =
    let a = c.args in
    let lp = c.loop-b in
    let q = c.block_start-start.result in
    let start : q ≡ min (lp.b * 128) (a.l - 128) = c.block_start-start.ensures in
    let end : q + 128 ≡ min ((lp.b + 1) * 128) a.l = omega (arith, start) in (
      c.gather.ensures.local_len,
      subst (λ (x : ℕ). OffsetsTo a.k a.l a.m a.bits.now a.s.now x c.fill_block.new.s) end
          (offsets_more a.k a.l a.m a.bits.now a.s.now (min (lp.b * 128) a.l) q lp.s _ _ c.lanes_of-lanes.result lp.invariant.1 (omega (arith, start)) (search rules)
          c.gather.ensures.by_index c.lanes_of-lanes.ensures c.fill_block.ensures),
    )

pub returns : goal.returns
returns c =
    let lp = c.loop-b in
    let a = c.args in
    let e : min (lp.b * 128) a.l ≡ a.l = omega (arith, c.div_ceil-b-end.ensures) in
    offsets_all a.k a.l a.m a.bits.now a.s.now (min (lp.b * 128) a.l) lp.s lp.invariant.1 e (search rules)
