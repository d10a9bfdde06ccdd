-- Parity strips by products: each data byte times a bit, 0 or 1, of a table that has 16 places for each data disk, place j for parity disk k + j.
-- Nobody has to believe these: `MultipliedEncodes` says that with the columns' bits they are document 01's encoding.
-- Assumes nothing.
use Rattle.std.specs.Prelude.{List, ℕ, ◌+◌, ◌-◌, ◌*◌, ◌/◌, ◌%◌, ◌≤◌, ltb, length, get_or, if◌then◌else◌}
use Rattle.flat.specs.Lists.{tabulate}
use Rattle.flat.specs.Strips.{byte_of}
use Rattle.strip_blocks.specs.Totals.{total}

-- each entry is 0 or 1
abbrev pub Bits : List ℕ → Type 0
Bits xs = (p : ℕ) → get_or xs p 0 ≤ 1

-- the XOR of the products f i * b i of the disks i below k
unfoldable pub products : ℕ → (ℕ → ℕ) → (ℕ → ℕ) → ℕ
unfolding total
products k f b = total k (λ i. f i * b i)

-- byte t of the strip of parity disk k + j: data disk i is multiplied by its bit for j
unfoldable pub parity_byte : ℕ → ℕ → List ℕ → List ℕ → ℕ → ℕ → ℕ
unfolding products byte_of
parity_byte k l bits stripe j t = products k (byte_of l stripe t) (λ i. get_or bits (i * 16 + j) 0)

-- that strip
unfoldable pub parity_strip : ℕ → ℕ → List ℕ → List ℕ → ℕ → List ℕ
unfolding tabulate parity_byte
parity_strip k l bits stripe j = tabulate l (parity_byte k l bits stripe j)

-- the stripe in which byte t of the strip of each parity disk k + j is g j t
unfoldable pub striped : ℕ → ℕ → (ℕ → ℕ → ℕ) → List ℕ → List ℕ
unfolding tabulate
striped k l g stripe = tabulate (length stripe) (λ p. if ltb (p / l) k then get_or stripe p 0 else g (p / l - k) (p % l))

-- the stripe with all parity strips by products
unfoldable pub multiplied : ℕ → ℕ → List ℕ → List ℕ → List ℕ
unfolding striped parity_byte
multiplied k l bits stripe = striped k l (parity_byte k l bits stripe) stripe
