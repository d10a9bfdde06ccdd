-- `strip_rows::add_byte` meets its contract: 16 products are XORed in, place by place.
-- Assumes nothing.
use Rattle.gf2.specs.Sets.{◌⊕◌}
use native.Mathlib.Omega.{arith}
use Rattle.strip_blocks.proofs.Runs.{run_all}
use Rattle.strip_products.proofs.Products.{product-same}
use Rattle.strip_products.proofs.Joined.{joined-more}
use borrow.Author.Rules.{rules}
use Rattle.strip_rows.proofs.add_byte.Goals as goal

pub loop-j-preserved : goal.loop-j-preserved
unfolding ◌⊕◌
loop-j-preserved c =
    let lp = c.loop-j in (
      search rules,
      joined-more _ _ _ _ _ _ lp.invariant.1 (search rules)
          (product-same _ _ _ _ c.product.ensures.product (omega (arith, c.at.ensures.place, c.at.ensures.is_bit))),
    )

pub returns : goal.returns
returns c = run_all _ _ _ 16 _ _ c.loop-j.invariant.1 (search rules) (search rules)
