-- `strip_blocks::walking::sum_walked` meets its contract: the block is the XOR of the strips that have gone by.
-- Assumes nothing.
use mathlib.Core.Path.{sym, subst}
use Prim.Native.Nat.{ℕ, ◌+◌, ◌*◌, ◌^◌, ◌<◌}
use native.Mathlib.Nat.{mod-lt}
use native.Mathlib.Omega.{arith}
use lib.ListN.{get_or}
use lib.Pow.{pow_pos}
use Rattle.gf2.specs.Sets.{◌∖◌}
use Rattle.strip_blocks.proofs.Summed.{Summed, summed_more}
use Rattle.strip_blocks.proofs.Walked.{Next, next-lowest, gone_byte, gone-byte, gone-start, gone_whole}
use borrow.Author.Rules.{rules}
use Rattle.strip_blocks.proofs.walking.sum_walked.Goals as goal

pub loop-left-init : goal.loop-left-init
loop-left-init g c =
    let a = c.args in
    let e = c.first_of-left.ensures in
    (subst (λ (x : ℕ). x < 2 ^ a.n) (sym e) (mod-lt a.set (pow_pos a.n)), search rules, gone-start _ _ _ _ _ _ _ e)

pub loop-left-preserved : goal.loop-left-preserved
loop-left-preserved g c =
    let lp = c.loop-left in
    let a = c.args in
    let i = c.lowest-i.result in
    let next : Next a.n lp.left i = next-lowest _ _ _ c.loop-left-test.true lp.invariant.0 c.lowest-i.ensures.0 in
    let less : c.without-left.result < lp.left = subst (λ (x : ℕ). x < lp.left) (sym c.without-left.ensures) next.less in (
      omega (arith, less),
      omega (arith, less),
      subst (λ (x : ℕ). Summed g.row.W (gone_byte a.s.now a.l a.n a.set a.o) x c.added-block.result) (sym c.without-left.ensures)
          (summed_more g.row.W (gone_byte a.s.now a.l a.n a.set a.o) lp.left (lp.left ∖ 2 ^ i) _ _ (λ t. get_or a.s.now (i * a.l + a.o + t) 0) lp.invariant.2 c.added-block.ensures
          (λ t. gone-byte a.s.now a.l a.n a.set a.o lp.left i t next.below next.inside)),
    )

pub returns : goal.returns
returns g c = gone_whole _ _ _ _ _ _ _ _ c.loop-left.invariant.2 c.loop-left-test.false
