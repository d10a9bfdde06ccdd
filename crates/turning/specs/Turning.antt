-- Document 02, request [11], "Turn the disks": in the field's words, rotated parity.
-- Stripes have n strips of L bytes each; r is the stripe's number.
-- Assumes nothing.
use Rattle.std.specs.Prelude.{List, ℕ, ◌+◌, ◌-◌, ◌*◌, ◌/◌, ◌%◌}
use Rattle.gf2.specs.Sets.{has}
use Rattle.flat.specs.Lists.{set_of, tabulate}
use Rattle.flat.specs.Strips.{byte_of}

-- the slot in which stripe r stores disk i's strip
unfoldable pub slot : ℕ → ℕ → ℕ → ℕ
slot n r i = (i + r) % n

-- the disk whose strip stands in slot s
unfoldable pub disk_in : ℕ → ℕ → ℕ → ℕ
disk_in n r s = (s + (n - r % n)) % n

-- n strips of L bytes, strip i the strip f i of a stripe
unfoldable pub arranged : ℕ → ℕ → (ℕ → ℕ) → List ℕ → List ℕ
unfolding tabulate byte_of
arranged n L f stripe = tabulate (n * L) (λ p. byte_of L stripe (p % L) (f (p / L)))

-- a stripe turned: slot s holds the strip of its disk
unfoldable pub turned : ℕ → ℕ → ℕ → List ℕ → List ℕ
unfolding arranged disk_in
turned n L r = arranged n L (disk_in n r)

-- and turned back: disk i has the strip of its slot
unfoldable pub turned_back : ℕ → ℕ → ℕ → List ℕ → List ℕ
unfolding arranged slot
turned_back n L r = arranged n L (slot n r)

-- lost slots become lost disks: the disks whose slot is in S
unfoldable pub disks_of : ℕ → ℕ → ℕ → ℕ
unfolding set_of has slot
disks_of n r S = set_of n (λ i. has S (slot n r i))
