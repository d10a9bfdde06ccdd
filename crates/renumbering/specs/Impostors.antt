-- Wrong readings of document 02's request [8], each told from the right one by two codes, and what the call answers for two pairs of cards.
-- The proofs are those of proofs/Impostors.antt.
-- Assumes nothing.
use Rattle.std.specs.Prelude.{◌≡◌, Bool, true, false, ◌&&◌, [], ◌∷◌, ◌+◌, ◌-◌, ◌%◌, eqb}
use Rattle.gf2.specs.Sets.{first, over}
use Rattle.flat.specs.Lists.{every, sum, same, member}
use Rattle.flat.specs.Cards.{Code, code, column, edition_one}
use Rattle.flat.specs.Erasures.{vector}
use Rattle.flat.specs.Alike.{alike}
use Rattle.flat.specs.Faults.{accepted, alike_report}
use Rattle.renumbering.specs.Renumbering.{Renumbering, renumbered}

-- the same counts, and something else of the columns
unfoldable pub with_counts : (Code → Code → Bool) → Code → Code → Bool
with_counts test A B = eqb A.k B.k && eqb A.m B.m && test A B

-- ---- document 01's: equal vectors

unfoldable pub same_vectors : Code → Code → Bool
unfolding same vector
same_vectors A B = same (vector A) (vector B)

-- Both have the vector 0 1 2. The first has a parity disk that mirrors data disk 0; the second has none.
abbrev pub NotByVectors : Type 0
NotByVectors =
    let A = code 2 2 (1 ∷ 3 ∷ []) in
    let B = code 2 2 (3 ∷ 3 ∷ []) in
    (with_counts same_vectors A B ≡ true) × (alike A B ≡ false)

-- ---- equal sets of columns, however often each stands

unfoldable pub same_sets : Code → Code → Bool
unfolding every column member
same_sets A B = every A.m (λ j. member (column A j) B.columns) && every B.m (λ j. member (column B j) A.columns)

abbrev pub NotBySets : Type 0
NotBySets =
    let A = code 2 3 (1 ∷ 1 ∷ 2 ∷ []) in
    let B = code 2 3 (1 ∷ 2 ∷ 2 ∷ []) in
    (with_counts same_sets A B ≡ true) × (alike A B ≡ false)

-- ---- equal sums and XORs of the columns

unfoldable pub same_sums : Code → Code → Bool
unfolding sum over first column
same_sums A B =
    eqb (sum A.columns) (sum B.columns) && eqb (over A.m (first A.m) (column A)) (over B.m (first B.m) (column B))

abbrev pub NotBySums : Type 0
NotBySums =
    let A = code 3 2 (1 ∷ 6 ∷ []) in
    let B = code 3 2 (2 ∷ 5 ∷ []) in
    (with_counts same_sums A B ≡ true) × (alike A B ≡ false)

-- ---- columns compared place by place

unfoldable pub same_columns : Code → Code → Bool
unfolding same
same_columns A B = same A.columns B.columns

-- C1's columns in another order.
abbrev pub NotByPlaces : Type 0
NotByPlaces =
    let A = code 4 3 (7 ∷ 11 ∷ 13 ∷ []) in
    let B = code 4 3 (13 ∷ 7 ∷ 11 ∷ []) in
    (with_counts same_columns A B ≡ false) × (alike A B ≡ true)

-- ---- only one renumbering

-- Equal columns may be exchanged, or not: both carry C4 to itself.
abbrev pub NotOne : Type 0
NotOne =
    let C = code 1 2 (1 ∷ 1 ∷ []) in
    Renumbering C C (λ j. 1 - j) × Renumbering C C (λ j. j)

-- ---- the other way round

-- C1's columns in another order: parity disks 4, 5 and 6 become 5, 6 and 4, and its first entry, 50, becomes 98. The other way round it would be 82.
abbrev pub NotInverse : Type 0
NotInverse =
    let A = code 4 3 (7 ∷ 11 ∷ 13 ∷ []) in
    let B = code 4 3 (13 ∷ 7 ∷ 11 ∷ []) in
    Renumbering A B (λ j. (j + 1) % 3) × (renumbered A (λ j. (j + 1) % 3) 50 ≡ 98) × (renumbered A (λ j. (j + 2) % 3) 50 ≡ 82)

-- ---- cards

-- C1's card with its columns in another order, and with another column.
abbrev pub Answers : Type 0
Answers =
    let card = edition_one (4 ∷ 3 ∷ 7 ∷ 0 ∷ 11 ∷ 0 ∷ 13 ∷ 0 ∷ []) in
    (alike_report card (edition_one (4 ∷ 3 ∷ 13 ∷ 0 ∷ 7 ∷ 0 ∷ 11 ∷ 0 ∷ [])) ≡ accepted (1 ∷ []))
    × (alike_report card (edition_one (4 ∷ 3 ∷ 7 ∷ 0 ∷ 11 ∷ 0 ∷ 14 ∷ 0 ∷ [])) ≡ accepted (0 ∷ []))
