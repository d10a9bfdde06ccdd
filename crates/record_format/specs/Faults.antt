-- Document 01, "Faults by their source", for the record file: what its calls answer, and what they leave in a lent buffer, for every
-- input. The tests of a call stand in the document's order.
-- Assumes nothing.
use Rattle.std.specs.Prelude.{not, List, [], ◌∷◌, ◌++◌, ℕ, suc, eqb, ltb, length, drop, if◌then◌else◌}
use Rattle.gf2.specs.Sets.{has}
use Rattle.flat.specs.Lists.{padded}
use Rattle.flat.specs.Cards.{Code, disks, card_length, code_of, edition_one}
use Rattle.flat.specs.Strips.{length_ok}
use Rattle.flat.specs.Faults.{Report, accepted, refused, unless_refused, with_card, stripe_tests}
use Rattle.record_format.specs.Records.{entry_count, strips_at, record_length, record_bytes, length_in, entry_count_in, body_in, mark_ok, entries_ok, card_entry_ok, lost_in, strip_entries_ok}

-- ---- the writer, for a stripe of n bytes and an output of p: T, and T bytes at the output's front

-- its tests on a code
unfoldable pub record_write_tests : Code → ℕ → ℕ → ℕ → ℕ → Report
unfolding stripe_tests record_length
record_write_tests C L S n p =
    stripe_tests C L S n
    (if ltb p (record_length C L S) then refused 16 [] else accepted (record_length C L S ∷ []))

unfoldable pub record_write_report : List ℕ → ℕ → ℕ → ℕ → ℕ → Report
unfolding with_card record_write_tests
record_write_report card L S n p = with_card (edition_one card) (λ C. record_write_tests C L S n p)

unfoldable pub record_write_output : List ℕ → ℕ → ℕ → List ℕ → List ℕ → List ℕ
unfolding unless_refused record_write_report record_bytes record_length disks code_of
record_write_output card L S stripe output =
    unless_refused (record_write_report card L S (length stripe) (length output))
    (record_bytes card (disks (code_of (edition_one card))) L S stripe ++ drop (record_length (code_of (edition_one card)) L S) output) output

-- ---- the calls that take a record

-- the last tests, once E is n + 1: the strips' entries, and the file's length
unfoldable pub strips_report : Code → List ℕ → Report → Report
unfolding strip_entries_ok strips_at disks card_length length_in lost_in record_length
strips_report C file next =
    if not (strip_entries_ok (disks C) (strips_at (disks C) (card_length C.m)) (length_in file) (lost_in (disks C) file) file) then refused 14 [] else
    if not (eqb (length file) (record_length C (length_in file) (lost_in (disks C) file))) then refused 15 [] else
    next

-- what such a call answers: the record's refusal, else what it answers for the card's code
unfoldable pub with_record : List ℕ → (Code → Report) → Report
unfolding mark_ok length_ok length_in entries_ok card_entry_ok with_card body_in entry_count_in entry_count disks strips_report
with_record file answer =
    if not (mark_ok file) then refused 13 [] else
    if not (length_ok (length_in file)) then refused 6 [] else
    if not (entries_ok file) then refused 14 [] else
    if not (card_entry_ok file) then refused 14 [] else
    with_card (edition_one (body_in file 0)) (λ C.
    if not (eqb (entry_count_in file) (entry_count (disks C))) then refused 14 [] else
    strips_report C file (answer C))

-- the reader: k, m, L and the lost set, and the columns in 16 places
unfoldable pub read_report : List ℕ → Code → Report
unfolding length_in lost_in disks
read_report file C = accepted (C.k ∷ C.m ∷ length_in file ∷ lost_in (disks C) file ∷ [])

unfoldable pub record_report : List ℕ → Report
unfolding with_record read_report
record_report file = with_record file (read_report file)

unfoldable pub record_columns : List ℕ → List ℕ
unfolding padded unless_refused record_report code_of body_in
record_columns file = padded 16 (unless_refused (record_report file) (code_of (edition_one (body_in file 0))).columns [])

-- the call beside the body call, whose tests are on the disks' number and the lost set
unfoldable pub body_tests : ℕ → ℕ → ℕ → Report
unfolding has
body_tests n S d =
    if not (ltb d n) then refused 9 [] else
    if has S d then refused 16 [] else
    accepted []

unfoldable pub body_report : List ℕ → ℕ → Report
unfolding with_record body_tests disks lost_in
body_report file d = with_record file (λ C. body_tests (disks C) (lost_in (disks C) file) d)

-- the part of the file that the body call hands back
unfoldable pub body_part : List ℕ → ℕ → List ℕ
unfolding unless_refused body_report body_in
body_part file d = unless_refused (body_report file d) (body_in file (suc d)) []
