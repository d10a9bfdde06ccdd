-- Document 01, "Strips".
-- A stripe is a list of n * L bytes: byte p is byte p % L of the strip of disk p / L.
-- Assumes nothing.
use Rattle.std.specs.Prelude.{Bool, ◌&&◌, List, ℕ, ◌+◌, ◌-◌, ◌*◌, ◌/◌, ◌%◌, leb, ltb, get_or, take, if◌then◌else◌}
use Rattle.gf2.specs.Sets.{over}
use Rattle.flat.specs.Lists.{tabulate}
use Rattle.flat.specs.Cards.{Code, disks, column}

-- L is 1 to 65,536
unfoldable pub length_ok : ℕ → Bool
length_ok L = leb 1 L && leb L 65536

-- byte t of the strip of disk i
unfoldable pub byte_of : ℕ → List ℕ → ℕ → ℕ → ℕ
byte_of L stripe t i = get_or stripe (i * L + t) 0

-- What disk i holds when data disk d holds v d: a data disk its own, a parity disk the XOR of those of its data disks.
-- The same is meant of bits (a data word) and of bytes (a data content).
unfoldable pub holds : Code → (ℕ → ℕ) → ℕ → ℕ
unfolding over column
holds C v i = if ltb i C.k then v i else over C.k (column C (i - C.k)) v

-- the stripe that a data content, k strips of L bytes, gives
unfoldable pub given : Code → ℕ → List ℕ → List ℕ
unfolding tabulate disks holds byte_of
given C L content = tabulate (disks C * L) (λ p. holds C (byte_of L content (p % L)) (p / L))

-- encoding reads the k data strips and writes the m parity strips
unfoldable pub encoded : Code → ℕ → List ℕ → List ℕ
unfolding given
encoded C L stripe = given C L (take (C.k * L) stripe)
