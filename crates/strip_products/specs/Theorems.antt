-- What a product with a column's bit is, and what stripes become by such products. The proofs are those of proofs/Theorems.antt.
-- Assumes nothing.
use Rattle.std.specs.Prelude.{◌≡◌, List, ℕ, ◌+◌, ◌*◌, ◌<◌, length, get_or, if◌then◌else◌}
use Rattle.gf2.specs.Sets.{bit, has, over}
use Rattle.flat.specs.Cards.{Code, column, disks}
use Rattle.flat.specs.Strips.{encoded}
use Rattle.strip_products.specs.Products.{products, multiplied}

-- A byte times a column's bit is the byte where the column has the disk (bit 1), and 0 where it has not (bit 0).
abbrev pub ProductOfBit : Type 0
ProductOfBit = (byte column disk : ℕ) → byte * bit column disk ≡ (if has column disk then byte else 0)

-- So the XOR of all products is that of the column's disks.
abbrev pub ProductsOver : Type 0
ProductsOver = (k column : ℕ) (f : ℕ → ℕ) → products k f (bit column) ≡ over k column f

-- With the columns' bits in the table the stripe becomes the encoded one.
abbrev pub MultipliedEncodes : Type 0
MultipliedEncodes =
    (C : Code) (L : ℕ) (bits stripe : List ℕ) → length stripe ≡ disks C * L
    → ((i j : ℕ) → i < C.k → j < C.m → get_or bits (i * 16 + j) 0 ≡ bit (column C j) i)
    → multiplied C.k L bits stripe ≡ encoded C L stripe
