-- `strip_lanes::fill_long` meets its contract: the strip is written up to o, the data strips are as at entry.
-- Assumes nothing.
use mathlib.Core.Path.{◌≡◌}
use Rattle.strip_lanes.proofs.Spreading.{spread-zeros, strip-none, strip-block, strip-all}
use borrow.Author.Rules.{rules}
use Rattle.strip_lanes.proofs.fill_long.Goals as goal

pub loop-o-init : goal.loop-o-init
loop-o-init c =
    let a = c.args in
    (search rules, spread-zeros _ _ _ _ _ c.requires.1 c.new-lanes.ensures c.spread.ensures, strip-none a.k a.l a.bits.now a.j a.s.now)

pub loop-o-preserved : goal.loop-o-preserved
loop-o-preserved c =
    let a = c.args in (
      search rules,
      c.loop-o.invariant.1,
      strip-block a.k a.l a.bits.now a.j a.s.now c.loop-o.s _ _ _ c.loop-o.o _ c.loop-o.invariant.1 c.loop-o.invariant.2
          (search rules) (search rules) (search rules) (search rules) c.sum-block.ensures c.put.ensures,
    )

pub returns : goal.returns
returns c =
    let lp = c.loop-o in
    let a = c.args in
    let e : lp.o ≡ a.l = search rules in
    strip-all a.k a.l a.bits.now a.j a.s.now lp.o lp.s lp.invariant.2 e (search rules)
