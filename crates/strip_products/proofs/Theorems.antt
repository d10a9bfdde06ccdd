-- The proofs of specs/Theorems.antt.
-- Assumes nothing.
use mathlib.Core.Path.{◌≡◌, sym, ap, ◌∙◌}
use mathlib.Core.Bool.{Bool, true, false}
use mathlib.Core.Logic.{◌⊎◌, inl, inr}
use Prim.Native.Nat.{ℕ, ◌+◌, ◌-◌, ◌*◌, ◌/◌, ◌%◌, ◌≤◌, ◌<◌}
use native.Mathlib.Omega.{arith}
use lib.Dec.{T, ltb}
use lib.ListN.{get_or, take}
use Rattle.std.specs.Prelude.{if◌then◌else◌}
use Rattle.gf2.specs.Sets.{bit, over}
use Rattle.gf2.proofs.Tests.{ltb_in, ltb_out, below_or}
use Rattle.flat.specs.Lists.{tabulate}
use Rattle.flat.specs.Cards.{column, disks}
use Rattle.flat.specs.Strips.{byte_of, holds, given, encoded}
use Rattle.flat.proofs.Lists.{tabulate_cong}
use Rattle.flat.proofs.Positions.{places, at_place, byte-take}
use Rattle.strip_products.specs.Products.{products, parity_byte, multiplied}
use Rattle.strip_products.specs.Theorems.{ProductOfBit, ProductsOver, MultipliedEncodes}
use Rattle.strip_products.proofs.Products as products

pub product-of-bit : ProductOfBit
product-of-bit = products.product-of-bit

pub products-over : ProductsOver
products-over = products.products-over

pub multiplied-encodes : MultipliedEncodes
unfolding multiplied encoded given holds parity_byte disks
multiplied-encodes C L bits stripe e columns =
    ap (λ (n : ℕ). tabulate n new) e
    ∙ tabulate_cong (disks C * L) new (λ p. holds C (byte_of L (take (C.k * L) stripe) (p % L)) (p / L))
    (λ p h. let q = places (disks C) L p h in go p q.0 q.1 (ltb (p / L) C.k) (λ t. ltb_out (p / L) C.k t) (λ t. ltb_in t))
  where
    below : (p : ℕ) → p / L < C.k + C.m → (p / L < C.k → ⊥) → (p / L < C.k) ⊎ (C.k ≤ p / L) → p / L - C.k < C.m
    below p d f (inl x) = absurd (f x)
    below p d f (inr x) = omega arith

    new : ℕ → ℕ
    new p = if ltb (p / L) C.k then get_or stripe p 0 else parity_byte C.k L bits stripe (p / L - C.k) (p % L)

    go : (p : ℕ) → p / L < disks C → p % L < L → (b : Bool) → (T b → p / L < C.k) → (p / L < C.k → T b)
        → (if b then get_or stripe p 0 else products C.k (byte_of L stripe (p % L)) (λ i. get_or bits (i * 16 + (p / L - C.k)) 0))
        ≡ (if b then byte_of L (take (C.k * L) stripe) (p % L) (p / L) else over C.k (column C (p / L - C.k)) (byte_of L (take (C.k * L) stripe) (p % L)))
    go p d h true l u = at_place L stripe p ∙ sym (byte-take C.k L stripe (p % L) (p / L) h (l tt))
    go p d h false l u =
        products.products_cong C.k (byte_of L stripe (p % L)) (byte_of L (take (C.k * L) stripe) (p % L)) (λ i. get_or bits (i * 16 + (p / L - C.k)) 0) (bit (column C (p / L - C.k)))
        (λ i m. sym (byte-take C.k L stripe (p % L) i h m)) (λ i m. columns i (p / L - C.k) m (below p d u (below_or (p / L) C.k)))
        ∙ products.products-over C.k (column C (p / L - C.k)) (byte_of L (take (C.k * L) stripe) (p % L))
