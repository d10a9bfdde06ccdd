-- `strip_lanes::lanes::Lanes::sum` meets its contract: the strips go in one after the other, each times its lanes.
-- Assumes nothing.
use mathlib.Core.Path.{◌≡◌}
use Prim.Native.Nat.{◌+◌, ◌*◌, ◌%◌, ◌≤◌}
use native.Mathlib.Omega.{arith}
use lib.ListN.{get_or}
use Rattle.flat.proofs.Positions.{strip-within}
use Rattle.strip_blocks.proofs.Summed.{summed_none, summed_more, summed_all}
use Rattle.strip_products.proofs.Products.{products-none}
use Rattle.strip_lanes.proofs.Spreading.{lane_sum, lane-sum-more}
use borrow.Author.Rules.{rules}
use Rattle.strip_lanes.proofs.lanes.Lanes.sum.Goals as goal

pub loop-i-init : goal.loop-i-init
loop-i-init c =
    let a = c.args in
    (search rules, summed_none 128 (lane_sum a.s.now a.l a.self.now a.o) 0 (λ t. products-none _ _))

pub overflow_mul-i : goal.overflow_mul-i
overflow_mul-i c =
    let inside : let a = c.args in c.loop-i.i * a.l + a.l ≤ a.k * a.l =
    let a = c.args in strip-within c.loop-i.i a.k a.l (omega arith) in
    omega (arith, inside)

pub overflow_add-i : goal.overflow_add-i
overflow_add-i c =
    let inside : let a = c.args in c.loop-i.i * a.l + a.l ≤ a.k * a.l =
    let a = c.args in strip-within c.loop-i.i a.k a.l (omega arith) in
    omega (arith, inside)

pub loop-i-preserved : goal.loop-i-preserved
loop-i-preserved c =
    let a = c.args in
    let i = c.loop-i.i in (
      search rules,
      summed_more 128 (lane_sum a.s.now a.l a.self.now a.o) i (i + 1) _ _
          (λ t. get_or a.s.now (i * a.l + a.o + t) 0 * get_or a.self.now (i * 16 + t % 16) 0) c.loop-i.invariant.1 c.add.ensures
          (lane-sum-more a.s.now a.l a.self.now a.o i),
    )

pub returns : goal.returns
returns c =
    let e : c.loop-i.i ≡ c.args.k = search rules in
    let a = c.args in
    summed_all 128 (lane_sum a.s.now a.l a.self.now a.o) _ _ _ c.loop-i.invariant.1 e
