-- What an update does, in plain words above each statement. The proofs are those of proofs/.
-- Assumes nothing.
use Rattle.std.specs.Prelude.{◌≡◌, ◌≢◌, ◌↔◌, List, [], ◌∷◌, ℕ, ◌+◌, ◌*◌, ◌≤◌, ◌<◌, T, length, get_or, if◌then◌else◌}
use Rattle.gf2.specs.Sets.{has, size, ◌⊕◌}
use Rattle.flat.specs.Lists.{put}
use Rattle.flat.specs.Cards.{Code, Card, code_of, disks, column}
use Rattle.flat.specs.Strips.{byte_of, encoded}
use Rattle.flat.specs.Checks.{row}
use Rattle.flat.specs.Faults.{accepted, encode_stripe}
use Rattle.updating.specs.Updating.{updated, naming}
use Rattle.updating.specs.Faults.{update_report, update_stripe}

-- ---- the strips that are updated

-- They are that of data disk d and those of the parities naming it: as many as the answer says, and at most m + 1.
abbrev pub RowNames : Type 0
RowNames =
    (C : Code) (d : ℕ) → d < C.k
    → ((i : ℕ) → i < C.k → T (has (row C d) i) ↔ (i ≡ d))
    × ((j : ℕ) → j < C.m → T (has (row C d) (C.k + j)) ↔ T (has (column C j) d))
    × (size (row C d) ≡ 1 + naming C d) × (1 + naming C d ≤ C.m + 1)

-- ---- the bytes

-- Each byte of those strips is XORed with the old and the new data byte, encoded stripe or not, and each byte of the others stays.
abbrev pub UpdateXors : Type 0
UpdateXors =
    (C : Code) (L d i t : ℕ) (new stripe : List ℕ) → length stripe ≡ disks C * L → i < disks C → t < L
    → byte_of L (updated C L d new stripe) t i
    ≡ (if has (row C d) i then byte_of L stripe t i ⊕ (byte_of L stripe t d ⊕ get_or new t 0) else byte_of L stripe t i)

-- So the strip of data disk d becomes the new one.
abbrev pub UpdateWrites : Type 0
UpdateWrites =
    (C : Code) (L d t : ℕ) (new stripe : List ℕ) → d < C.k → length stripe ≡ disks C * L → t < L
    → byte_of L (updated C L d new stripe) t d ≡ get_or new t 0

-- A byte that changes in the data strip changes that byte in every naming parity, and nowhere else.
abbrev pub UpdateChanges : Type 0
UpdateChanges =
    (C : Code) (L d i t : ℕ) (new stripe : List ℕ) → d < C.k → length stripe ≡ disks C * L → i < disks C → t < L
    → (byte_of L (updated C L d new stripe) t i ≢ byte_of L stripe t i)
    ↔ ((byte_of L (updated C L d new stripe) t d ≢ byte_of L stripe t d) × T (has (row C d) i))

-- On an encoded stripe the outcome is that of encoding afresh, with the new strip put in the place of the old one.
abbrev pub UpdateEncodes : Type 0
UpdateEncodes =
    (C : Code) (L d : ℕ) (new stripe : List ℕ) → d < C.k → length stripe ≡ disks C * L → length new ≡ L
    → encoded C L stripe ≡ stripe → updated C L d new stripe ≡ encoded C L (put stripe (d * L) new)

-- The stripe keeps its length.
abbrev pub UpdateKeepsLength : Type 0
UpdateKeepsLength = (C : Code) (L d : ℕ) (new stripe : List ℕ) → length (updated C L d new stripe) ≡ length stripe

-- ---- the call

-- What an accepted call answers, and what it leaves in the stripe: its length, each byte, the new strip in its place, which bytes changed, and on an
-- encoded stripe what the encoder makes of it with the new strip.
pub record RightUpdate (card : Card) (L : ℕ) (stripe : List ℕ) (d : ℕ) (new : List ℕ) : Type 0 where
  pub answer : update_report card L (length stripe) d (length new) ≡ accepted ((1 + naming (code_of card) d) ∷ [])
  pub most : 1 + naming (code_of card) d ≤ (code_of card).m + 1
  pub long : length (update_stripe card L stripe d new) ≡ length stripe
  pub xored : (i t : ℕ) → i < disks (code_of card) → t < L
      → byte_of L (update_stripe card L stripe d new) t i
      ≡ (if has (row (code_of card) d) i then byte_of L stripe t i ⊕ (byte_of L stripe t d ⊕ get_or new t 0) else byte_of L stripe t i)
  pub written : (t : ℕ) → t < L → byte_of L (update_stripe card L stripe d new) t d ≡ get_or new t 0
  pub changes : (i t : ℕ) → i < disks (code_of card) → t < L
      → (byte_of L (update_stripe card L stripe d new) t i ≢ byte_of L stripe t i)
      ↔ ((get_or new t 0 ≢ byte_of L stripe t d) × T (has (row (code_of card) d) i))
  pub afresh : encode_stripe card L stripe ≡ stripe → update_stripe card L stripe d new ≡ encode_stripe card L (put stripe (d * L) new)

-- Each call whose number is 0 does this.
abbrev pub UpdateAccepted : Type 0
UpdateAccepted =
    (card : Card) (L : ℕ) (stripe : List ℕ) (d : ℕ) (new : List ℕ)
    → (update_report card L (length stripe) d (length new)).number ≡ 0 → RightUpdate card L stripe d new
