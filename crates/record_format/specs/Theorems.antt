-- The theorems about the record file (demand 2), in plain words above each. The proofs are those of proofs/Theorems.antt.
-- Assumes nothing.
use Rattle.std.specs.Prelude.{◌≡◌, ◌≢◌, ◌↔◌, List, [], ◌∷◌, ◌++◌, ℕ, suc, ◌*◌, ◌<◌, T, length, take, drop, replicate, if◌then◌else◌}
use Rattle.gf2.specs.Sets.{has}
use Rattle.flat.specs.Lists.{Bytes, range, each}
use Rattle.flat.specs.Cards.{code_of, disks, edition_one}
use Rattle.record_format.specs.Records.{record_bytes, body_in}
use Rattle.flat.specs.Faults.{accepted, refused, card_columns}
use Rattle.record_format.specs.Faults.{record_write_report, record_write_output, record_report, record_columns, body_report, body_part}

-- Reading what the record writer wrote gives the card's k, m and columns, L and the lost set; each disk that is not lost has its
-- strip as its body, and the body of a lost one is refused.
abbrev pub RecordReadsBack : Type 0
RecordReadsBack =
    (card stripe output : List ℕ) (L S len : ℕ) → record_write_report card L S (length stripe) (length output) ≡ accepted (len ∷ [])
    → let C = code_of (edition_one card) in
    let file = take len (record_write_output card L S stripe output) in
    (record_report file ≡ accepted (C.k ∷ C.m ∷ L ∷ S ∷ []))
    × (record_columns file ≡ card_columns (edition_one card))
    × ((d : ℕ) → d < disks C → (T (has S d) → ⊥) → (body_report file d ≡ accepted []) × (body_part file d ≡ take L (drop (d * L) stripe)))
    × ((d : ℕ) → d < disks C → T (has S d) → body_report file d ≡ refused 16 [])

-- the stripe of a record of n disks: each body in its place, and 0 for the strips that are lost
unfoldable pub stripe_in : ℕ → ℕ → ℕ → List ℕ → List ℕ
unfolding each has body_part range
stripe_in n L S file = each (λ d. if has S d then replicate L 0 else body_part file d) (range 0 n)

-- The reader accepts only what the writer can write: each accepted file is what the writer writes from the file's own card, L, lost
-- set and bodies, with 0 for the lost strips, into any output of its length.
abbrev pub RecordWritesBack : Type 0
RecordWritesBack =
    (file output : List ℕ) (k m L S : ℕ) → Bytes file → record_report file ≡ accepted (k ∷ m ∷ L ∷ S ∷ [])
    → length output ≡ length file
    → let card = body_in file 0 in
    let stripe = stripe_in (disks (code_of (edition_one card))) L S file in
    (record_write_report card L S (length stripe) (length output) ≡ accepted (length file ∷ []))
    × (record_write_output card L S stripe output ≡ file)

-- The part that the body call hands back is empty exactly where the call beside it refuses.
abbrev pub BodyEmptyRefused : Type 0
BodyEmptyRefused = (file : List ℕ) (d : ℕ) → (body_part file d ≡ []) ↔ ((body_report file d).number ≢ 0)

-- A record byte by byte: C6's card, strips of one byte, disk 1 lost. Writer and reader share the definition of an entry, so neither
-- theorem above would miss a wrong one.
abbrev pub worked_record : List ℕ
worked_record =
    0x46 ∷ 0x58 ∷ 0x43 ∷ 0x31 ∷ 1 ∷ 0 ∷ 0 ∷ 0 ∷ 4 ∷ 0 ∷
    0 ∷ 0 ∷ 50 ∷ 0 ∷ 0 ∷ 0 ∷ 4 ∷ 0 ∷ 0 ∷ 0 ∷
    1 ∷ 0 ∷ 54 ∷ 0 ∷ 0 ∷ 0 ∷ 1 ∷ 0 ∷ 0 ∷ 0 ∷
    2 ∷ 1 ∷ 0 ∷ 0 ∷ 0 ∷ 0 ∷ 0 ∷ 0 ∷ 0 ∷ 0 ∷
    1 ∷ 2 ∷ 55 ∷ 0 ∷ 0 ∷ 0 ∷ 1 ∷ 0 ∷ 0 ∷ 0 ∷
    2 ∷ 1 ∷ 1 ∷ 0 ∷ 0x11 ∷ 0x11 ∷ []

abbrev pub RecordByBytes : Type 0
RecordByBytes = record_bytes (2 ∷ 1 ∷ 1 ∷ 0 ∷ []) 3 1 2 (0x11 ∷ 0x22 ∷ 0x11 ∷ []) ≡ worked_record

-- with another byte at a place
abbrev pub damaged : ℕ → ℕ → List ℕ
damaged at byte = take at worked_record ++ (byte ∷ drop (suc at) worked_record)

-- The reader on that record, and with another mark, another length in disk 0's entry, another kind in disk 1's, and a byte more.
abbrev pub RecordDamaged : Type 0
RecordDamaged =
    (record_report worked_record ≡ accepted (2 ∷ 1 ∷ 1 ∷ 2 ∷ []))
    × (record_report (damaged 3 0x32) ≡ refused 13 [])
    × (record_report (damaged 26 2) ≡ refused 14 [])
    × (record_report (damaged 30 1) ≡ refused 14 [])
    × (record_report (worked_record ++ (0 ∷ [])) ≡ refused 15 [])
