-- `strip_lanes::lanes::Lanes::add_piece` meets its contract: 16 products are XORed in, place by place.
-- Assumes nothing.
use mathlib.Core.Path.{◌≡◌}
use Prim.Native.Nat.{◌+◌, ◌*◌}
use native.Mathlib.Omega.{arith}
use Rattle.gf2.specs.Sets.{◌⊕◌}
use Rattle.strip_blocks.proofs.Runs.{run_all}
use Rattle.strip_products.proofs.Products.{product-same}
use Rattle.strip_products.proofs.Joined.{joined-more}
use borrow.Author.Rules.{rules}
use Rattle.strip_lanes.proofs.lanes.Lanes.add_piece.Goals as goal

pub loop-t-preserved : goal.loop-t-preserved
unfolding ◌⊕◌
loop-t-preserved c =
    let lane = c.args.i * 16 + c.loop-t.t in
    (search rules, joined-more _ _ _ _ _ _ c.loop-t.invariant.1 (search rules) (product-same _ _ _ _ c.product.ensures.product (omega (arith, c.self.invariant lane))))

pub returns : goal.returns
returns c =
    let e : c.loop-t.t ≡ 16 = search rules in
    rw (← c.self.view_is) (run_all _ _ _ 16 _ _ c.loop-t.invariant.1 e (search rules))
