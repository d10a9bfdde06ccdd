-- What is proved of the Stepped Combination codes, in plain words above each statement. The proofs are those of proofs/.
-- Assumes nothing.
use Rattle.std.specs.Prelude.{◌≡◌, ◌⊎◌, ◌↔◌, List, [], ◌∷◌, ℕ, suc, ◌+◌, ◌*◌, ◌^◌, ◌≤◌, ◌<◌, T, eqb, length, get_or, take}
use Rattle.gf2.specs.Sets.{has, size}
use Rattle.flat.specs.Lists.{range, filter, member}
use Rattle.flat.specs.Cards.{code_of, column, edition_one}
use Rattle.flat.specs.Erasures.{fatal}
use Rattle.flat.specs.Faults.{accepted, card_report, erasures_report, erasures_slice}
use Rattle.stepped_codes.specs.Stepped.{distance_ok, size_ok, parity_sets, parity_set, stepped, choose, within_bounds}
use Rattle.stepped_codes.specs.Faults.{stepped_report, stepped_buffer}
use Rattle.stepped_codes.specs.Placing.{placed, placed_among, sizes}

-- ---- the parity sets

-- The sizes are 2 and more for d = 3, and the odd numbers from 3 on for d = 4.
abbrev pub SizesAre : Type 0
SizesAre =
    (s : ℕ) → (T (size_ok 3 s) ↔ ((t : ℕ) × (s ≡ 2 + t))) × (T (size_ok 4 s) ↔ ((t : ℕ) × (s ≡ 3 + 2 * t)))

-- The list's members are exactly the sets of parity disks that have such a size.
abbrev pub ParitySetsExact : Type 0
ParitySetsExact = (d m S : ℕ) → T (member S (parity_sets d m)) ↔ ((S < 2 ^ m) × T (size_ok d (size S)))

-- An earlier one is smaller, or as large and of smaller number. So each stands there once, and no two data disks take the same.
abbrev pub ParitySetsOrdered : Type 0
ParitySetsOrdered =
    (d m i j : ℕ) → i < j → j < length (parity_sets d m)
    → let R = parity_set d m i in
    let S = parity_set d m j in
    (size R < size S) ⊎ ((size R ≡ size S) × (R < S))

-- ---- counts, and placing by them

-- Pascal's rule counts the sets of s of m disks, and `placed` gives the i-th of them, smaller number first.
abbrev pub PlacedSized : Type 0
PlacedSized =
    (m s : ℕ)
    → let sets = filter (λ S. eqb (size S) s) (range 0 (2 ^ m)) in
    (length sets ≡ choose m s) × ((i : ℕ) → i < choose m s → get_or sets i 0 ≡ placed m s i)

-- The i-th parity set is placed by the counts of the sizes before its own, and then by those of its own.
abbrev pub PlacedWhole : Type 0
PlacedWhole = (d m i : ℕ) → i < length (parity_sets d m) → parity_set d m i ≡ placed_among m (sizes d m) i

-- There are 2^m - m - 1 parity sets for d = 3, and for m of 1 or more 2^(m-1) - m for d = 4.
abbrev pub ParitySetCounts : Type 0
ParitySetCounts =
    (m : ℕ) → (length (parity_sets 3 m) + m + 1 ≡ 2 ^ m) × (length (parity_sets 4 (suc m)) + suc m ≡ 2 ^ m)

-- ---- the bounds

-- They are the document's, with nothing taken away from a smaller number: for d = 3 and m of 1 or more, for d = 4 and m of 2 or more, and
-- none with m = 1.
abbrev pub BoundsPrinted : Type 0
BoundsPrinted =
    (n k : ℕ)
    → (T (within_bounds 3 (suc n) k) ↔ ((2 ^ n < k + suc n) × (k + suc n + 1 ≤ 2 ^ suc n)))
    × (T (within_bounds 4 (suc (suc n)) k) ↔ ((2 ^ n + 1 < k + suc (suc n)) × (k + suc (suc n) ≤ 2 ^ suc n)))
    × ((d : ℕ) → T (within_bounds d 1 k) → ⊥)

-- k is within them exactly where m parity disks have enough parity sets, and one parity disk less has not.
abbrev pub BoundsCount : Type 0
BoundsCount =
    (d n k : ℕ) → T (distance_ok d)
    → T (within_bounds d (suc n) k) ↔ ((length (parity_sets d n) < k) × (k ≤ length (parity_sets d (suc n))))

-- So no call is accepted with more than 6 parity disks.
abbrev pub SixAtMost : Type 0
SixAtMost = (d m k : ℕ) → T (within_bounds d m k) → k ≤ 16 → m ≤ 6

-- ---- distance

-- No fatal set is smaller than d.
abbrev pub Distance : Type 0
Distance = (d m k S : ℕ) → T (distance_ok d) → T (within_bounds d m k) → T (fatal (stepped d m k) S) → d ≤ size S

-- ---- the call

-- What an accepted call leaves in the buffer: a card that the card check accepts, of k and m, in which data disk i goes into the parity disks of
-- its parity set, and there are enough parity sets, so that none is read past the list's end; no set that the lister lists for it, into any
-- slice that it accepts, is smaller than d, and one has d disks.
pub record RightStepped (d m k : ℕ) (buffer : List ℕ) : Type 0 where
  pub answer : stepped_report d m k (length buffer) ≡ accepted []
  pub read : card_report (edition_one (stepped_buffer d m k buffer)) ≡ accepted (k ∷ m ∷ [])
  pub code : code_of (edition_one (stepped_buffer d m k buffer)) ≡ stepped d m k
  pub named : (i j : ℕ) → i < k → j < m → has (column (code_of (edition_one (stepped_buffer d m k buffer))) j) i ≡ has (parity_set d m i) j
  pub enough : k ≤ length (parity_sets d m)
  pub listed : (slice : List ℕ) (count S : ℕ) → erasures_report (edition_one (stepped_buffer d m k buffer)) (length slice) ≡ accepted (count ∷ [])
      → T (member S (take count (erasures_slice (edition_one (stepped_buffer d m k buffer)) slice))) → d ≤ size S
  pub least : (slice : List ℕ) (count : ℕ) → erasures_report (edition_one (stepped_buffer d m k buffer)) (length slice) ≡ accepted (count ∷ [])
      → (S : ℕ) × T (member S (take count (erasures_slice (edition_one (stepped_buffer d m k buffer)) slice))) × (size S ≡ d)

-- Each call whose number is 0 does this.
abbrev pub SteppedAccepted : Type 0
SteppedAccepted = (d m k : ℕ) (buffer : List ℕ) → (stepped_report d m k (length buffer)).number ≡ 0 → RightStepped d m k buffer
