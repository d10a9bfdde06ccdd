-- Wrong updates, each told from the request's by C1's code, with disk 0 becoming 0x21. The proofs are those of proofs/Impostors.antt.
-- Assumes nothing.
use Rattle.std.specs.Prelude.{◌≡◌, List, [], ◌∷◌, ℕ, get_or}
use Rattle.flat.specs.Lists.{put}
use Rattle.flat.specs.Cards.{Code, code}
use Rattle.flat.specs.Strips.{encoded}
use Rattle.updating.specs.Updating.{updated}

abbrev pub C1 : Code
C1 = code 4 3 (7 ∷ 11 ∷ 13 ∷ [])

-- C7's stripe, but for parity disk 4, which has 0x76 in place of 0x77: so it is not encoded
abbrev pub spoiled : List ℕ
spoiled = 17 ∷ 34 ∷ 68 ∷ 136 ∷ 118 ∷ 187 ∷ 221 ∷ []

abbrev pub strip : List ℕ
strip = 33 ∷ []

-- the stripe after the update
abbrev pub after : List ℕ
after = updated C1 1 0 strip spoiled

-- Encoding all parities afresh gives parity disk 4 another byte, since the stripe was not encoded.
abbrev pub NotEncodedAfresh : Type 0
NotEncodedAfresh = (get_or after 4 0 ≡ 70) × (get_or (encoded C1 1 (put spoiled 0 strip)) 4 0 ≡ 71)

-- Where the new strip is written first, and then taken for the old one, parity disk 4 keeps its byte.
abbrev pub OldStripRead : Type 0
OldStripRead = (get_or after 4 0 ≡ 70) × (get_or (updated C1 1 0 strip (put spoiled 0 strip)) 4 0 ≡ 118)

-- Disk 0 is in three columns: where the first parity alone changes, disks 5 and 6 keep 187 and 221.
abbrev pub EachNamingParity : Type 0
EachNamingParity = (get_or after 5 0 ≡ 139) × (get_or after 6 0 ≡ 237)
