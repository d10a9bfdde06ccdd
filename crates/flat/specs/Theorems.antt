-- The theorems about the definitions, in plain words above each. The proofs are those of proofs/Theorems.antt.
-- Assumes nothing.
use Rattle.std.specs.Prelude.{◌≡◌, ◌⊎◌, ◌≢◌, ◌↔◌, List, [], ◌∷◌, ℕ, ◌+◌, ◌^◌, ◌≤◌, ◌<◌, T, length, get_or, take}
use Rattle.gf2.specs.Sets.{has, size, ◌⊕◌, ◌⊆◌, union, over}
use Rattle.gf2.specs.Span.{InSpan, Independent}
use Rattle.gf2.specs.Within.{within}
use Rattle.flat.specs.Lists.{Bytes, range, filter, sum, member, padded}
use Rattle.flat.specs.declared.Edition.{Edition}
use Rattle.flat.specs.Cards.{Code, code, Card, card_of, wear_count, each_wear, code_of, disks, column, data_part}
use Rattle.flat.specs.Erasures.{holds_bit, survivors, fatal, undetermined, undetermined_set, determined_set, minimal_erasure, erasures, vector}
use Rattle.flat.specs.Equations.{equation, minimal_equation, equations, Precedes}
use Rattle.flat.specs.Faults.{accepted, card_report, card_columns, card_wears, card_write_report, card_write_buffer, erasures_report, erasures_vector, equations_report, equations_slice}
use Rattle.flat.specs.Spans.{codeword, rows, checks, erasures_by_word, equations_by_parities}

-- ---- cards (demand 2)

-- Reading what the card writer wrote gives k, m, the columns and the wears that it was given, and wear 1 for the first edition.
abbrev pub CardReadsBack : Type 0
CardReadsBack =
    (e : Edition) (C : Code) (wears buffer : List ℕ) → card_write_report e C wears (length buffer) ≡ accepted []
    → let card = card_of e (card_write_buffer e C wears buffer) in
    (card_report card ≡ accepted (C.k ∷ C.m ∷ []))
    × (card_columns card ≡ padded 16 C.columns)
    × (card_wears card ≡ padded 32 (each_wear e (disks C) wears))
    × (code_of card ≡ C)

-- Each accepted card is what the card writer writes, into any buffer of its length, from what the card reader answers.
abbrev pub CardWritesBack : Type 0
CardWritesBack =
    (card : Card) (k m : ℕ) → Bytes card.bytes → card_report card ≡ accepted (k ∷ m ∷ [])
    → (buffer : List ℕ) → length buffer ≡ length card.bytes
    → let e = card.edition in
    let C = code k m (take m (card_columns card)) in
    let wears = take (wear_count e (disks C)) (card_wears card) in
    (card_write_report e C wears (length buffer) ≡ accepted []) × (card_write_buffer e C wears buffer ≡ card.bytes)

-- ---- a code as two spans

-- The codeword of x ⊕ y is that of x, XORed with that of y.
abbrev pub CodewordLinear : Type 0
CodewordLinear = (C : Code) (x y : ℕ) → codeword C (x ⊕ y) ≡ codeword C x ⊕ codeword C y

-- The rows span the codewords.
abbrev pub RowsSpan : Type 0
RowsSpan = (C : Code) (w : ℕ) → InSpan (rows C) w ↔ ((x : ℕ) × (x < 2 ^ C.k) × (codeword C x ≡ w))

-- The checks span the sets of the code's disks whose bits XOR to 0 for every data word.
abbrev pub ChecksSpan : Type 0
ChecksSpan =
    (C : Code) (E : ℕ)
    → InSpan (checks C) E ↔ ((E < 2 ^ disks C) × ((x : ℕ) → x < 2 ^ C.k → over (disks C) E (holds_bit C x) ≡ 0))

-- Neither has a row too many.
abbrev pub SpansIndependent : Type 0
SpansIndependent = (C : Code) → Independent (rows C) × Independent (checks C)

-- ---- fatal sets

-- A set is fatal exactly where the codeword of some data word other than 0 lies inside it.
abbrev pub FatalHoldsCodeword : Type 0
FatalHoldsCodeword =
    (C : Code) (S : ℕ) → T (fatal C S) ↔ ((x : ℕ) × (x < 2 ^ C.k) × (x ≢ 0) × T (codeword C x ⊆ S))

-- That is where `within` leaves a row.
abbrev pub FatalLeavesRow : Type 0
FatalLeavesRow = (C : Code) (S : ℕ) → T (fatal C S) ↔ (within S (rows C) ≢ [])

-- Duality: a set is fatal exactly where some disk of it has no equation among the survivors.
abbrev pub Duality : Type 0
Duality =
    (C : Code) (S : ℕ)
    → T (fatal C S)
    ↔ ((d : ℕ) × (d < disks C) × T (has S d) × (((E : ℕ) × T (E ⊆ survivors C S) × T (equation C d E)) → ⊥))

-- A disk is undetermined exactly where a codeword inside the set holds it: the undetermined disks are the union of those codewords.
abbrev pub UndeterminedHeld : Type 0
UndeterminedHeld =
    (C : Code) (S d : ℕ) → d < disks C
    → T (undetermined C S d) ↔ ((x : ℕ) × (x < 2 ^ C.k) × T (codeword C x ⊆ S) × T (has (codeword C x) d))

-- A lost disk is undetermined exactly where it has no equation among the survivors.
abbrev pub UndeterminedUntold : Type 0
UndeterminedUntold =
    (C : Code) (S d : ℕ) → d < disks C → T (has S d)
    → T (undetermined C S d) ↔ (((E : ℕ) × T (E ⊆ survivors C S) × T (equation C d E)) → ⊥)

-- The undetermined disks are those that a row left inside the set holds.
abbrev pub UndeterminedUnion : Type 0
UndeterminedUnion =
    (C : Code) (S : ℕ)
    → (undetermined_set C S ≡ union (within S (rows C)))
    × ((d : ℕ) → d < disks C → T (undetermined C S d) ↔ T (has (union (within S (rows C))) d))

-- A set is fatal exactly where some disk is undetermined.
abbrev pub FatalUndetermined : Type 0
FatalUndetermined = (C : Code) (S : ℕ) → T (fatal C S) ↔ (undetermined_set C S ≢ 0)

-- Only lost disks are undetermined.
abbrev pub UndeterminedLost : Type 0
UndeterminedLost = (C : Code) (S : ℕ) → T (undetermined_set C S ⊆ S)

-- The determined disks are the lost ones that are not undetermined.
abbrev pub DeterminedRest : Type 0
DeterminedRest =
    (C : Code) (S d : ℕ) → T (has (determined_set C S) d) ↔ (T (has S d) × (T (has (undetermined_set C S) d) → ⊥))

-- ---- the list of minimal erasures

-- Its members are exactly the minimal erasures.
abbrev pub ErasuresExact : Type 0
ErasuresExact = (C : Code) (S : ℕ) → T (member S (erasures C)) ↔ ((S < 2 ^ disks C) × T (minimal_erasure C S))

-- An earlier entry is smaller, or as large and of smaller data part. So each stands there once.
abbrev pub ErasuresOrdered : Type 0
ErasuresOrdered =
    (C : Code) (i j : ℕ) → i < j → j < length (erasures C)
    → let R = get_or (erasures C) i 0 in
    let S = get_or (erasures C) j 0 in
    (size R < size S) ⊎ ((size R ≡ size S) × (data_part C R < data_part C S))

-- At most one for each data part.
abbrev pub OnePerDataPart : Type 0
OnePerDataPart =
    (C : Code) (R S : ℕ) → T (minimal_erasure C R) → T (minimal_erasure C S) → data_part C R ≡ data_part C S → R ≡ S

-- A set is fatal exactly where it contains an entry.
abbrev pub FatalHoldsListed : Type 0
FatalHoldsListed = (C : Code) (S : ℕ) → T (fatal C S) ↔ ((R : ℕ) × T (member R (erasures C)) × T (R ⊆ S))

-- A disk is undetermined exactly where an entry inside the set holds it.
abbrev pub UndeterminedListed : Type 0
UndeterminedListed =
    (C : Code) (S d : ℕ) → T (has (undetermined_set C S) d) ↔ ((R : ℕ) × T (member R (erasures C)) × T (R ⊆ S) × T (has R d))

-- It equals the enumeration with one candidate for each data word, kept where one row is left inside its codeword.
abbrev pub ErasuresEnumerated : Type 0
ErasuresEnumerated = (C : Code) → erasures C ≡ erasures_by_word C

-- ---- its vector

-- An entry has at least one disk, and at most m + 1.
abbrev pub EntrySizes : Type 0
EntrySizes = (C : Code) (S : ℕ) → T (member S (erasures C)) → (1 ≤ size S) × (size S ≤ C.m + 1)

-- So the vector counts them all: it has m + 1 numbers, and their total is the list's count.
abbrev pub VectorTotal : Type 0
VectorTotal = (C : Code) → (length (vector C) ≡ C.m + 1) × (sum (vector C) ≡ length (erasures C))

-- Of the 17 numbers that the lister answers: where it accepts, their total is the count that it answers, and never 0.
abbrev pub VectorAnswered : Type 0
VectorAnswered =
    (card : Card) (n count : ℕ) → erasures_report card n ≡ accepted (count ∷ []) → (sum (erasures_vector card n) ≡ count) × (1 ≤ count)

-- ---- the list of equations

-- Its members are exactly the equations of the disk with no smaller one inside.
abbrev pub EquationsExact : Type 0
EquationsExact = (C : Code) (d E : ℕ) → T (member E (equations C d)) ↔ ((E < 2 ^ disks C) × T (minimal_equation C d E))

-- An earlier entry is smaller; or as large, with fewer parity disks; or equal in both, with the smaller set number. So each stands there once.
abbrev pub EquationsOrdered : Type 0
EquationsOrdered =
    (C : Code) (d i j : ℕ) → i < j → j < length (equations C d) → Precedes C (get_or (equations C d) i 0) (get_or (equations C d) j 0)

-- The order changes no count: there are as many as equations of the disk with no smaller one inside.
abbrev pub EquationsCounted : Type 0
EquationsCounted = (C : Code) (d : ℕ) → length (equations C d) ≡ length (filter (minimal_equation C d) (range 0 (2 ^ disks C)))

-- No other list has these members in this order.
abbrev pub EquationsOnly : Type 0
EquationsOnly =
    (C : Code) (d : ℕ) (list : List ℕ)
    → ((E : ℕ) → T (member E list) ↔ ((E < 2 ^ disks C) × T (minimal_equation C d E)))
    → ((i j : ℕ) → i < j → j < length list → Precedes C (get_or list i 0) (get_or list j 0))
    → list ≡ equations C d

-- Every equation of the disk contains an entry.
abbrev pub EquationHoldsListed : Type 0
EquationHoldsListed =
    (C : Code) (d E : ℕ) → E < 2 ^ disks C → T (equation C d E) → (F : ℕ) × T (member F (equations C d)) × T (F ⊆ E)

-- It equals the enumeration with one candidate for each set of parities, kept where its check word holds the disk and leaves one row.
abbrev pub EquationsEnumerated : Type 0
EquationsEnumerated = (C : Code) (d : ℕ) → d < disks C → equations C d ≡ equations_by_parities C d

-- No equation of a disk of an accepted card is empty, since no column is 0.
abbrev pub NoEquationEmpty : Type 0
NoEquationEmpty =
    (card : Card) (d E k m : ℕ) → card_report card ≡ accepted (k ∷ m ∷ []) → d < disks (code_of card)
    → T (equation (code_of card) d E) → E ≢ 0

-- A data disk in no column of an accepted card has no equation: its list is empty, and the call accepts every slice with count 0.
abbrev pub NoColumnNoEquation : Type 0
NoColumnNoEquation =
    (card : Card) (d k m : ℕ) → card_report card ≡ accepted (k ∷ m ∷ []) → d < k
    → ((j : ℕ) → j < m → T (has (column (code_of card) j) d) → ⊥)
    → ((E : ℕ) → T (equation (code_of card) d E) → ⊥)
    × (equations (code_of card) d ≡ [])
    × ((n : ℕ) → equations_report card d n ≡ accepted (0 ∷ []))

-- A codeword of more than m + 1 disks leaves more than one row, and so does a check word of more than k + 1.
abbrev pub MinimalSizes : Type 0
MinimalSizes =
    (C : Code) (w : ℕ)
    → (InSpan (rows C) w → length (within w (rows C)) ≡ 1 → size w ≤ C.m + 1)
    × (InSpan (checks C) w → length (within w (checks C)) ≡ 1 → size w ≤ C.k + 1)

-- ---- the lists as the calls write them

-- For an accepted card and a set of lost disks, a disk has an equation among the survivors exactly where one of the count entries that
-- the equation call writes for it lies among them, into any slice that it accepts.
abbrev pub EquationListed : Type 0
EquationListed =
    (card : Card) (slice : List ℕ) (S d k m count : ℕ) → card_report card ≡ accepted (k ∷ m ∷ [])
    → equations_report card d (length slice) ≡ accepted (count ∷ [])
    → ((E : ℕ) × T (E ⊆ survivors (code_of card) S) × T (equation (code_of card) d E))
    ↔ ((E : ℕ) × T (member E (take count (equations_slice card d slice))) × T (E ⊆ survivors (code_of card) S))

-- Every slice at least as long as the list is accepted, and the count is the list's length.
abbrev pub LongSlicesAccepted : Type 0
LongSlicesAccepted =
    (card : Card) (n d k m : ℕ) → card_report card ≡ accepted (k ∷ m ∷ [])
    → let es = erasures (code_of card) in
    let qs = equations (code_of card) d in
    (length es ≤ n → erasures_report card n ≡ accepted (length es ∷ []))
    × (d < disks (code_of card) → length qs ≤ n → equations_report card d n ≡ accepted (length qs ∷ []))
