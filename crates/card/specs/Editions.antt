-- What the functions that take a card apart require of it, and the part that they hand on. Of those who read a card nobody else has to know where an
-- edition's parts stand.
-- Assumes nothing.
use Rattle.std.specs.Prelude.{◌≡◌, true, List, ℕ, ◌+◌, ◌*◌, ◌≤◌, length, drop}
use Rattle.flat.specs.Cards.{Card, count_ok, start, first_byte_ok, data_count, parity_count, code_of, disks, wear_count}

-- it has both counts
abbrev pub Long : Card → Type 0
Long card = start card.edition + 2 ≤ length card.bytes

-- these are its counts, and may be those of a code
abbrev pub Counted : Card → ℕ → ℕ → Type 0
Counted card k m =
    Long card × (first_byte_ok card.edition card.bytes ≡ true) × (k ≡ data_count card) × (m ≡ parity_count card) × (count_ok k ≡ true)
    × (count_ok m ≡ true)

-- and the columns that they call for
abbrev pub Whole : Card → Type 0
Whole card = Long card × (start card.edition + 2 + 2 * parity_count card ≤ length card.bytes)

-- the wears that it holds: what follows the columns
abbrev pub held_bytes : Card → List ℕ
held_bytes card = drop (start card.edition + 2 + 2 * parity_count card) card.bytes

-- it is a card of n disks with as many wears as its edition has
abbrev pub Worn : Card → ℕ → Type 0
Worn card n = Whole card × (n ≡ disks (code_of card)) × (n ≤ 32) × (length (held_bytes card) ≡ wear_count card.edition n)
