-- A byte times a bit, and XORs of such products.
-- Assumes nothing.
use mathlib.Core.Path.{◌≡◌, refl, ap, ap₂, ◌∙◌}
use mathlib.Core.Logic.{◌⊎◌, inl, inr}
use mathlib.Core.List.{List}
use Prim.Native.Nat.{ℕ, zero, suc, ◌+◌, ◌*◌, ◌≤◌, ◌<◌}
use native.Mathlib.Nat.{add_assoc, mul-zero, mul-one}
use native.Mathlib.Numerals.{add-one}
use native.Mathlib.Omega.{arith}
use lib.Dec.{eqb}
use lib.ListN.{get_or, replicate}
use Rattle.std.specs.Prelude.{if◌then◌else◌}
use Rattle.gf2.specs.Sets.{bit, has, ◌⊕◌, over}
use Rattle.gf2.proofs.Bits.{two_cases, bit_lt}
use Rattle.flat.specs.Strips.{byte_of}
use Rattle.flat.proofs.Lists.{get_d_zeros}
use Rattle.strip_blocks.specs.Totals.{total}
use Rattle.strip_blocks.proofs.Totals.{total_cong}
use Rattle.strip_products.specs.Products.{Bits, products, parity_byte}
use Rattle.strip_products.specs.Theorems.{ProductOfBit, ProductsOver}

-- ---- one product

-- the byte for bit 1, and 0 for bit 0
pub product-chosen : (x b : ℕ) → b ≤ 1 → x * b ≡ (if eqb b 1 then x else 0)
product-chosen x b h = go (two_cases b (omega arith))
  where
    go : (b ≡ 0) ⊎ (b ≡ 1) → x * b ≡ (if eqb b 1 then x else 0)
    go (inl e) = rw e (mul-zero x)
    go (inr e) = rw e (mul-one x)

-- it fits where the byte does
pub product_le : (x b : ℕ) → b ≤ 1 → x * b ≤ x
product_le x b h = go (two_cases b (omega arith))
  where
    go : (b ≡ 0) ⊎ (b ≡ 1) → x * b ≤ x
    go (inl e) = rw (e, mul-zero x) (omega arith)
    go (inr e) = rw (e, mul-one x) (omega arith)

-- and of another name for the bit
pub product-same : (r x b c : ℕ) → r ≡ x * b → b ≡ c → r ≡ x * c
product-same r x b c e f = e ∙ ap (λ (y : ℕ). x * y) f

pub product-of-bit : ProductOfBit
unfolding has
product-of-bit byte column disk = product-chosen byte (bit column disk) (let h = bit_lt column disk in omega arith)

-- zeros are bits
pub zero_bits : (n : ℕ) → Bits (replicate n 0)
zero_bits n p = rw (get_d_zeros n p) (omega arith)

-- ---- their XOR

pub products-none : (f b : ℕ → ℕ) → products 0 f b ≡ 0
unfolding products total
products-none f b = refl

pub products-more : (i : ℕ) (f b : ℕ → ℕ) → products i f b ⊕ f i * b i ≡ products (i + 1) f b
unfolding products total
products-more i f b = rw (add-one i)

pub products_cong : (k : ℕ) (f g b c : ℕ → ℕ) → ((i : ℕ) → i < k → f i ≡ g i) → ((i : ℕ) → i < k → b i ≡ c i) → products k f b ≡ products k g c
unfolding products
products_cong k f g b c e h = total_cong k (λ i. f i * b i) (λ i. g i * c i) (λ i l. ap₂ ◌*◌ (e i l) (h i l))

pub products-over : ProductsOver
unfolding products total over
products-over zero column f = refl
products-over (suc k) column f = ap₂ ◌⊕◌ (products-over k column f) (product-of-bit (f k) column k)

-- ---- parity bytes, disk after disk

pub parity-none : (l : ℕ) (bits s : List ℕ) (j t : ℕ) → parity_byte 0 l bits s j t ≡ 0
unfolding parity_byte
parity-none l bits s j t = products-none (byte_of l s t) (λ i. get_or bits (i * 16 + j) 0)

pub parity-more : (i l : ℕ) (bits s : List ℕ) (j o t : ℕ)
    → parity_byte i l bits s j (o + t) ⊕ get_or s (i * l + o + t) 0 * get_or bits (i * 16 + j) 0 ≡ parity_byte (i + 1) l bits s j (o + t)
unfolding parity_byte byte_of
parity-more i l bits s j o t =
    ap (λ (p : ℕ). parity_byte i l bits s j (o + t) ⊕ get_or s p 0 * get_or bits (i * 16 + j) 0) (add_assoc (i * l) o t)
    ∙ products-more i (byte_of l s (o + t)) (λ d. get_or bits (d * 16 + j) 0)
