-- `strip_products::product` meets its contract: the product fits a byte, and is the byte or 0.
-- Assumes nothing.
use mathlib.Core.Path.{◌≡◌, ◌∙◌}
use Prim.Native.Nat.{ℕ, ◌*◌, ◌≤◌}
use native.Mathlib.Nat.{mul_comm}
use native.Mathlib.Omega.{arith}
use lib.Dec.{eqb}
use Rattle.std.specs.Prelude.{if◌then◌else◌}
use Rattle.strip_products.proofs.Products.{product_le, product-chosen}
use Rattle.strip_products.proofs.product.Goals as goal

-- a byte times a bit, in either order
chosen : (r x b : ℕ) → r ≡ x * b → b ≤ 1 → r ≡ (if eqb b 1 then x else 0)
chosen r x b e h = e ∙ product-chosen x b h

pub overflow_mul-product : goal.overflow_mul-product
overflow_mul-product c = let a = c.args in record { fits = omega (arith, mul_comm a.byte a.bit, product_le a.byte a.bit c.requires) }

pub returns-clause-chosen : goal.returns-clause-chosen
returns-clause-chosen c = chosen _ c.args.byte c.args.bit (search mul_comm) c.requires
