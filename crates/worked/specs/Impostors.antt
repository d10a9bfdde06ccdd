-- Impostors: wrong definitions and lists that look right, and a worked code that tells each from the true one.
-- Document 01 warns of most of them under "What tempts a builder" and "Before a delivery is taken".
-- Assumes nothing.
use Rattle.std.specs.Prelude.{◌≡◌, Bool, true, false, not, ◌&&◌, ◌≢◌, List, [], ◌∷◌, map, ℕ, suc, ◌-◌, ◌^◌, eqb, ltb, leb, length, get_or, if◌then◌else◌}
use Rattle.gf2.specs.Sets.{size, over, ◌∩◌, ◌⊆◌}
use Rattle.gf2.specs.Span.{select}
use Rattle.flat.specs.Lists.{some, every, range, filter, ordered_by, member}
use Rattle.flat.specs.Cards.{Code, disks, data_part, card_bytes, edition_one}
use Rattle.flat.specs.Erasures.{holds_bit, agree_outside, fatal, minimal_erasure, erasures}
use Rattle.flat.specs.Equations.{equation}
use Rattle.flat.specs.Faults.{Report, accepted, refused, erasures_report, rebuild_report}
use Rattle.flat.specs.Checks.{check}
use Rattle.flat.specs.Spans.{rows}
use Rattle.worked.specs.Table.{C1, C3, C4, C6, C8}

-- ---- what is fatal

-- 'two data words' without 'different': each agrees with itself, so that every set is fatal
unfoldable pub fatal_with_same : Code → ℕ → Bool
unfolding some agree_outside
fatal_with_same C S = some (2 ^ C.k) (λ x. some (2 ^ C.k) (λ y. agree_outside C S x y))

abbrev pub WordsDiffer : Type 0
WordsDiffer = (fatal_with_same C3.of 0 ≡ true) × (fatal C3.of 0 ≡ false)

-- 'subset' without 'proper': each fatal set contains itself, so that none is minimal
unfoldable pub minimal_in_itself : Code → ℕ → Bool
unfolding some disks fatal ◌⊆◌
minimal_in_itself C S = fatal C S && not (some (2 ^ disks C) (λ R. (R ⊆ S) && fatal C R))

abbrev pub SubsetProper : Type 0
SubsetProper = (minimal_in_itself C3.of 5 ≡ false) × (minimal_erasure C3.of 5 ≡ true)

-- refusing where no parity disk with its data disks has just one lost disk: one-parity-at-a-time repair sticks at C8, which is restored
unfoldable pub sticks : Code → ℕ → Bool
unfolding every size check ◌∩◌
sticks C S = every C.m (λ j. not (eqb (size (check C j ∩ S)) 1))

abbrev pub StuckRestored : Type 0
StuckRestored =
    (sticks C8.of C8.lost ≡ true)
    × (rebuild_report (edition_one (card_bytes C8.of)) C8.L C8.lost C8.entry ≡ C8.answer)

-- ---- what is listed

-- No list is that of every code.
abbrev pub NoListForAll : Type 0
NoListForAll = (list : List ℕ) → ((C : Code) → erasures C ≡ list) → ⊥

-- The single rows are not the list: C1 has more.
abbrev pub RowsAreNotAll : Type 0
RowsAreNotAll = erasures C1.of ≢ ordered_by size (suc (disks C1.of)) (rows C1.of)

-- every XOR of rows: C3's 15 would be listed
unfoldable pub every_word : Code → List ℕ
unfolding range select rows
every_word C = map (select (rows C)) (range 1 (2 ^ C.k - 1))

abbrev pub WordsAreTooMany : Type 0
WordsAreTooMany = (member 15 (every_word C3.of) ≡ true) × (member 15 (erasures C3.of) ≡ false)

-- stopping at size m: C4's list would be empty
unfoldable pub up_to_m : Code → List ℕ
unfolding filter size erasures
up_to_m C = filter (λ S. leb (size S) C.m) (erasures C)

abbrev pub SizePastM : Type 0
SizePastM = (up_to_m C4.of ≡ []) × (erasures C4.of ≢ up_to_m C4.of)

-- 10 before counting, where the slice has no place for every data word but 0: C12's slice of 2 would be too short
unfoldable pub ten_uncounted : Code → ℕ → Report
unfolding erasures
ten_uncounted C n = if ltb n (2 ^ C.k - 1) then refused 10 ((2 ^ C.k - 1) ∷ []) else accepted (length (erasures C) ∷ [])

abbrev pub TenIsCounted : Type 0
TenIsCounted = (ten_uncounted C3.of 2 ≡ refused 10 (3 ∷ [])) × (erasures_report (edition_one (card_bytes C3.of)) 2 ≡ accepted (2 ∷ []))

-- ---- in which order

-- entries of one size by set number: C1 would begin with 14
unfoldable pub by_set_number : Code → List ℕ
unfolding ordered_by size disks erasures
by_set_number C = ordered_by size (suc (disks C)) (ordered_by (λ S. S) (2 ^ disks C) (erasures C))

abbrev pub NotBySetNumber : Type 0
NotBySetNumber = (get_or (by_set_number C1.of) 0 0 ≡ 14) × (erasures C1.of ≢ by_set_number C1.of)

-- by data part alone: C6's 5 would come before 2
unfoldable pub by_data_part : Code → List ℕ
unfolding ordered_by data_part erasures
by_data_part C = ordered_by (data_part C) (2 ^ C.k) (erasures C)

abbrev pub SizeFirst : Type 0
SizeFirst = (by_data_part C6.of ≡ 5 ∷ 2 ∷ []) × (erasures C6.of ≢ by_data_part C6.of)

-- ---- what is an equation

-- without 'a set without d': each disk would tell itself, C6's disk 1 too, which is in no column
unfoldable pub equation_with_disk : Code → ℕ → ℕ → Bool
unfolding every over disks holds_bit
equation_with_disk C d E = every (2 ^ C.k) (λ x. eqb (over (disks C) E (holds_bit C x)) (holds_bit C x d))

abbrev pub EquationWithoutDisk : Type 0
EquationWithoutDisk = (equation_with_disk C6.of 1 2 ≡ true) × (equation C6.of 1 2 ≡ false)
