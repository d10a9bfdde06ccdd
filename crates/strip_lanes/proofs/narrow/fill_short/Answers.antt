-- `strip_lanes::narrow::fill_short` meets its contract: the strip is written up to the next block or its end, the sums from there on are 0.
-- Assumes nothing.
use mathlib.Core.Path.{◌≡◌, ◌∙◌, subst}
use Prim.Native.Nat.{ℕ, ◌+◌, ◌-◌, ◌*◌, ◌≤◌, min}
use native.Mathlib.Nat.{mul-le-mul_right}
use native.Mathlib.Omega.{arith}
use Rattle.flat.proofs.Lists.{get_d_zeros}
use Rattle.strip_lanes.proofs.Spreading.{StripTo, strip-none, strip-sums, strip-all}
use borrow.Author.Rules.{rules}
use Rattle.strip_lanes.proofs.narrow.fill_short.Goals as goal

pub loop-b-init : goal.loop-b-init
loop-b-init c =
    let a = c.args in
    let e : 0 ≡ min 0 a.l = omega arith in
    record {
      long = search rules;
      left = λ p h. get_d_zeros 128 p;
      so_far = subst (λ (x : ℕ). StripTo a.k a.l a.bits.now a.j a.s.now x a.s.now) e (strip-none a.k a.l a.bits.now a.j a.s.now);
    }

pub sum_16-requires : goal.sum_16-requires
sum_16-requires c =
    let a = c.args in
    let r = c.loop-b.invariant in
    let w : a.k * a.l ≤ (a.k + a.j) * a.l = mul-le-mul_right a.l (omega arith) in
    record {
      zeros = (omega (arith, c.div_ceil-b-end.ensures), λ t h. r.left _ (omega arith));
      inside = (search rules, omega (arith, c.block_start-start.ensures), omega (arith, w, r.so_far.long), search rules);
    }

pub loop-b-preserved : goal.loop-b-preserved
loop-b-preserved c =
    let a = c.args in
    let lp = c.loop-b in
    let r = lp.invariant in
    let q = c.block_start-start.result in
    let start : q ≡ min (lp.b * 16) (a.l - 16) = c.block_start-start.ensures in
    let end : q + 16 ≡ min ((lp.b + 1) * 16) a.l = omega (arith, start) in
    let room : lp.b * 16 + 16 ≤ 128 = omega (arith, c.div_ceil-b-end.ensures) in
    record {
      long = c.sum_16.ensures.long;
      left = λ p h. c.sum_16.ensures.kept.1 p (omega arith) ∙ r.left p (omega arith);
      so_far = subst (λ (x : ℕ). StripTo a.k a.l a.bits.now a.j a.s.now x c.put_16.new.s) end
          (strip-sums a.k a.l a.bits.now a.j a.s.now lp.s _ _ (min (lp.b * 16) a.l) q (lp.b * 16) r.so_far (omega (arith, start)) (omega (arith, start))
          (omega (arith, start)) (search rules) (omega (arith, room, c.sum_16.ensures.long)) c.sum_16.ensures.sums c.put_16.ensures);
    }

pub returns : goal.returns
returns c =
    let lp = c.loop-b in
    let a = c.args in
    let e : min (lp.b * 16) a.l ≡ a.l = omega (arith, c.div_ceil-b-end.ensures) in
    strip-all a.k a.l a.bits.now a.j a.s.now (min (lp.b * 16) a.l) lp.s lp.invariant.so_far e (search rules)
