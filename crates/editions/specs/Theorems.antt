-- What holds of cards of two editions, in plain words above each. That the card writer's cards are read back, and that an accepted card is one
-- that it writes, is said of both editions in flat/specs/Theorems.antt. The proofs are those of proofs/Theorems.antt.
-- Assumes nothing.
use Rattle.std.specs.Prelude.{◌≡◌, ◌≢◌, not, ◌&&◌, List, [], ◌∷◌, ◌++◌, ℕ, ◌+◌, ◌*◌, ◌≤◌, ◌<◌, eqb, ltb, length, get_or, replicate, if◌then◌else◌}
use Rattle.flat.specs.declared.Edition.TheVariants.{First, Second}
use Rattle.flat.specs.Lists.{Bytes, member}
use Rattle.flat.specs.Cards.{Code, card_length, card_bytes, Card, edition_one, edition_two, edition_length, code_of, disks, wears_of}
use Rattle.flat.specs.Faults.{Report, accepted, refused, code_report, card_report, with_card, card_write_report, card_write_buffer, verdict_report, erasures_report, erasures_vector, erasures_slice, equations_report, equations_slice}
use Rattle.editions.specs.Converting.{up_report, up_buffer, down_report, down_buffer}

-- ---- edition 1 is what document 01 has it to be

-- The card reader's tests are 1 to 5, its wears are 1.
abbrev pub FirstRead : Type 0
FirstRead =
    (card : List ℕ)
    → let C = code_of (edition_one card) in
    (card_report (edition_one card)
    ≡ (if ltb (length card) 2 then refused 1 [] else code_report C (eqb (length card) (card_length C.m)) (accepted (C.k ∷ C.m ∷ []))))
    × (wears_of (edition_one card) ≡ replicate (disks C) 1)

-- The card writer has the tests 2 to 5, of which 4 refuses each wear that it is given, and 7 (so 23 never comes), and writes k, m and the columns.
abbrev pub FirstWritten : Type 0
FirstWritten =
    (C : Code) (wears buffer : List ℕ)
    → (card_write_report First C wears (length buffer)
    ≡ code_report C (eqb (length C.columns) C.m && eqb (length wears) 0)
    (if member 0 wears then refused 23 [] else if not (eqb (length buffer) (card_length C.m)) then refused 7 [] else accepted []))
    × (card_write_report First C wears (length buffer) ≡ accepted [] → card_write_buffer First C wears buffer ≡ card_bytes C)

-- ---- edition 2

-- The card reader's tests are 1, 22, 2 to 5 and 23.
abbrev pub SecondRead : Type 0
SecondRead =
    (card : List ℕ)
    → let C = code_of (edition_two card) in
    card_report (edition_two card)
    ≡ (if ltb (length card) 3 then refused 1 [] else
    if not (eqb (get_or card 0 0) 2) then refused 22 [] else
    code_report C (eqb (length card) (3 + 2 * C.m + disks C))
    (if member 0 (wears_of (edition_two card)) then refused 23 [] else accepted (C.k ∷ C.m ∷ [])))

-- The card writer's are 2 to 5, of which 4 refuses a list of other than n wears, 23 and 7, and it writes the byte 0x02, k, m, the columns and the wears.
abbrev pub SecondWritten : Type 0
SecondWritten =
    (C : Code) (wears buffer : List ℕ)
    → (card_write_report Second C wears (length buffer)
    ≡ code_report C (eqb (length C.columns) C.m && eqb (length wears) (disks C))
    (if member 0 wears then refused 23 [] else if not (eqb (length buffer) (3 + 2 * C.m + disks C)) then refused 7 [] else accepted []))
    × (card_write_report Second C wears (length buffer) ≡ accepted [] → card_write_buffer Second C wears buffer ≡ 2 ∷ card_bytes C ++ wears)

-- An accepted card is a byte 0x02, then k, m, the columns, then a wear of 1 to 255 for each disk, 3 + 2m + n bytes.
pub record SecondLaid (card : List ℕ) : Type 0 where
  pub laid : card ≡ 2 ∷ card_bytes (code_of (edition_two card)) ++ wears_of (edition_two card)
  pub each_disk : length (wears_of (edition_two card)) ≡ disks (code_of (edition_two card))
  pub from_one : (i : ℕ) → i < disks (code_of (edition_two card)) → 1 ≤ get_or (wears_of (edition_two card)) i 0
  pub one_byte : (i : ℕ) → get_or (wears_of (edition_two card)) i 0 < 256
  pub long : length card ≡ 3 + 2 * (code_of (edition_two card)).m + disks (code_of (edition_two card))

abbrev pub SecondAccepted : Type 0
SecondAccepted = (card : List ℕ) → Bytes card → (card_report (edition_two card)).number ≡ 0 → SecondLaid card

-- ---- a card of the wrong edition

-- No bytes are an accepted card of both editions: a card that the caller names by the wrong one is refused.
abbrev pub OneEdition : Type 0
OneEdition = (card : List ℕ) → (card_report (edition_one card)).number ≡ 0 → (card_report (edition_two card)).number ≡ 0 → ⊥

-- ---- list and verdict depend on k, m and columns only

-- Accepted cards of any editions with one code get one answer of each call that looks at the code alone: one verdict, one list of minimal erasures
-- and one list of the equations of each disk.
pub record OneAnswer (card other : Card) : Type 0 where
  pub verdict : (S : ℕ) → verdict_report card S ≡ verdict_report other S
  pub count : (n : ℕ) → erasures_report card n ≡ erasures_report other n
  pub vector : (n : ℕ) → erasures_vector card n ≡ erasures_vector other n
  pub entries : (slice : List ℕ) → erasures_slice card slice ≡ erasures_slice other slice
  pub equation_count : (d n : ℕ) → equations_report card d n ≡ equations_report other d n
  pub equations : (d : ℕ) (slice : List ℕ) → equations_slice card d slice ≡ equations_slice other d slice
  pub any : (answer : Code → Report) → with_card card answer ≡ with_card other answer

abbrev pub OneCode : Type 0
OneCode =
    (card other : Card) → (card_report card).number ≡ 0 → (card_report other).number ≡ 0 → code_of card ≡ code_of other → OneAnswer card other

-- ---- the converter

-- What it writes is an accepted card of the other edition, with the same code and the same wears.
pub record Converted (card new : Card) : Type 0 where
  pub read : card_report new ≡ card_report card
  pub same_code : code_of new ≡ code_of card
  pub same_wears : wears_of new ≡ wears_of card

abbrev pub UpConverts : Type 0
UpConverts = (card buffer : List ℕ) → up_report card (length buffer) ≡ accepted [] → Converted (edition_one card) (edition_two (up_buffer card buffer))

abbrev pub DownConverts : Type 0
DownConverts = (card buffer : List ℕ) → down_report card (length buffer) ≡ accepted [] → Converted (edition_two card) (edition_one (down_buffer card buffer))

-- It goes up always, where the buffer has the new card's length.
abbrev pub UpAlways : Type 0
UpAlways =
    (card : List ℕ) (n : ℕ) → (card_report (edition_one card)).number ≡ 0 → n ≡ edition_length Second (code_of (edition_one card)) → up_report card n ≡ accepted []

-- It goes down only when all wear is 1: else 24, after the card's refusals and the buffer's.
abbrev pub DownWhenOne : Type 0
DownWhenOne =
    (card : List ℕ) (n : ℕ) → (card_report (edition_two card)).number ≡ 0 → n ≡ edition_length First (code_of (edition_two card))
    → (((i : ℕ) → i < disks (code_of (edition_two card)) → get_or (wears_of (edition_two card)) i 0 ≡ 1) → down_report card n ≡ accepted [])
    × ((i : ℕ) → i < disks (code_of (edition_two card)) → get_or (wears_of (edition_two card)) i 0 ≢ 1 → down_report card n ≡ refused 24 [])

-- Down after up returns the same bytes.
abbrev pub DownAfterUp : Type 0
DownAfterUp =
    (card buffer back : List ℕ) → Bytes card → up_report card (length buffer) ≡ accepted [] → length back ≡ length card
    → (down_report (up_buffer card buffer) (length back) ≡ accepted []) × (down_buffer (up_buffer card buffer) back ≡ card)

-- And so does up after down, where down is accepted.
abbrev pub UpAfterDown : Type 0
UpAfterDown =
    (card buffer back : List ℕ) → Bytes card → down_report card (length buffer) ≡ accepted [] → length back ≡ length card
    → (up_report (down_buffer card buffer) (length back) ≡ accepted []) × (up_buffer (down_buffer card buffer) back ≡ card)
