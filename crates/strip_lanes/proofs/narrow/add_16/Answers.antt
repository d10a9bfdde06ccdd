-- `strip_lanes::narrow::add_16` meets its contract: 16 products are XORed in, place by place.
-- Assumes nothing.
use Rattle.gf2.specs.Sets.{◌⊕◌}
use mathlib.Core.Path.{◌≡◌}
use Rattle.strip_blocks.proofs.Runs.{run_all}
use Rattle.strip_products.proofs.Joined.{joined-more}
use borrow.Author.Rules.{rules}
use Rattle.strip_lanes.proofs.narrow.add_16.Goals as goal

pub loop-t-preserved : goal.loop-t-preserved
unfolding ◌⊕◌
loop-t-preserved c = (search rules, joined-more _ _ _ _ _ _ c.loop-t.invariant.1 (search rules) c.product.ensures.product)

pub returns : goal.returns
returns c = let e : c.loop-t.t ≡ 16 = search rules in run_all _ _ _ 16 _ _ c.loop-t.invariant.1 e (search rules)
