-- Turned stripes by their slots: what the calls compute. Nobody has to believe these: the theorems say that they are the request's turning, and no
-- public contract names them.
-- Assumes nothing.
use Rattle.std.specs.Prelude.{◌≡◌, List, map, ◌++◌, ℕ, ◌+◌, ◌-◌, ◌*◌, ◌/◌, ◌%◌, ◌^◌, ◌<◌, length, take, drop}
use Rattle.gf2.specs.Sets.{has, ◌∪◌, over}
use Rattle.flat.specs.Lists.{set_of}
use Rattle.flat.specs.Repairs.{filled, all_vanish}
use Rattle.turning.specs.Turning.{slot, disk_in, turned, turned_back, disks_of}

-- the slots whose disk is in S
unfoldable pub slots_of : ℕ → ℕ → ℕ → ℕ
unfolding set_of has disk_in
slots_of n r S = set_of n (λ s. has S (disk_in n r s))

-- a stripe from a place on, and then what stands before that place
unfoldable pub cut : ℕ → List ℕ → List ℕ
cut at stripe = drop at stripe ++ take at stripe

-- a number of n bits, its first a bits moved to its end
unfoldable pub rotated : ℕ → ℕ → ℕ → ℕ
unfolding ◌∪◌
rotated n a S = S * 2 ^ (n - a) % 2 ^ n ∪ S * 2 ^ (n - a) / 2 ^ n

-- A stripe is turned, and turned back, by two copies.
abbrev pub TurnedCut : Type 0
TurnedCut =
    (n L r : ℕ) (stripe : List ℕ) → 0 < n → length stripe ≡ n * L
    → (turned n L r stripe ≡ cut ((n - r % n) * L) stripe) × (turned_back n L r stripe ≡ cut (r % n * L) stripe)

-- Sets of slots and of disks are rotations of each other's numbers.
abbrev pub SetsRotated : Type 0
SetsRotated =
    (n r S : ℕ) → 0 < n → S < 2 ^ n → (slots_of n r S ≡ rotated n (n - r % n) S) × (disks_of n r S ≡ rotated n (r % n) S)

-- A sum over the slots of some disks is the sum over the disks.
abbrev pub SumTurned : Type 0
SumTurned = (n r S : ℕ) (f : ℕ → ℕ) → over n (slots_of n r S) f ≡ over n S (λ i. f (slot n r i))

-- The slots of some sets of disks vanish on a stripe where those sets vanish on the stripe turned back.
abbrev pub VanishTurned : Type 0
VanishTurned =
    (n L r : ℕ) (Es stripe : List ℕ) → all_vanish n L stripe (map (slots_of n r) Es) ≡ all_vanish n L (turned_back n L r stripe) Es

-- Filling the slots of S in place, each by the slots of its disk's set, is turning back, filling their disks, and turning.
abbrev pub FilledTurned : Type 0
FilledTurned =
    (n L r S : ℕ) (E : ℕ → ℕ) (stripe : List ℕ) → length stripe ≡ n * L
    → filled n L (λ s. slots_of n r (E (disk_in n r s))) S stripe ≡ turned n L r (filled n L E (disks_of n r S) (turned_back n L r stripe))
