-- Wrong readings of document 02's request [7], each told from the right one by values. The proofs are those of proofs/Impostors.antt.
-- Assumes nothing.
use Rattle.std.specs.Prelude.{◌≡◌, Bool, true, false, ◌&&◌, List, [], ◌∷◌, ℕ, suc, ◌+◌, ◌-◌, ◌^◌, eqb, leb, ltb, take}
use Rattle.gf2.specs.Sets.{has, size}
use Rattle.flat.specs.Lists.{set_of, range, filter, ordered_by}
use Rattle.flat.specs.Cards.{code}
use Rattle.flat.specs.Erasures.{fatal}
use Rattle.flat.specs.Faults.{refused}
use Rattle.stepped_codes.specs.Stepped.{parity_sets, size_ok, within_bounds}
use Rattle.stepped_codes.specs.Faults.{stepped_report}

-- ---- the order

-- The sets for d = 3 and four parity disks, and for d = 4 and five: 6 + 4 + 1 and 10 + 1 of them, as document 002 counts them.
abbrev pub Lists : Type 0
Lists =
    (parity_sets 3 4 ≡ 3 ∷ 5 ∷ 6 ∷ 9 ∷ 10 ∷ 12 ∷ 7 ∷ 11 ∷ 13 ∷ 14 ∷ 15 ∷ [])
    × (parity_sets 4 5 ≡ 7 ∷ 11 ∷ 13 ∷ 14 ∷ 19 ∷ 21 ∷ 22 ∷ 25 ∷ 26 ∷ 28 ∷ 31 ∷ [])

-- lexicographic order among sets of one size, which gives the figures of Table II of document 002: by their lowest disk, then the next
unfoldable pub lexicographic : ℕ → ℕ → List ℕ
unfolding ordered_by size set_of has filter size_ok range
lexicographic d m =
    ordered_by size (suc m)
    (ordered_by (λ S. 2 ^ m - 1 - set_of m (λ j. has S (m - 1 - j))) (2 ^ m) (filter (λ S. size_ok d (size S)) (range 0 (2 ^ m))))

-- With four parity disks 9 would come before 6; three parity disks can't tell.
abbrev pub NotLexicographic : Type 0
NotLexicographic = (take 4 (lexicographic 3 4) ≡ 3 ∷ 5 ∷ 9 ∷ 6 ∷ []) × (lexicographic 3 3 ≡ parity_sets 3 3)

-- by number alone, smaller and larger sizes mixed: 7 would come before 9
unfoldable pub by_number : ℕ → ℕ → List ℕ
unfolding filter size_ok size range
by_number d m = filter (λ S. size_ok d (size S)) (range 0 (2 ^ m))

abbrev pub NotByNumber : Type 0
NotByNumber = take 4 (by_number 3 4) ≡ 3 ∷ 5 ∷ 6 ∷ 7 ∷ []

-- ---- the sizes

-- of size b and up, by steps of one
unfoldable pub by_one : ℕ → ℕ → List ℕ
unfolding ordered_by size filter range
by_one b m = ordered_by size (suc m) (filter (λ S. leb b (size S)) (range 0 (2 ^ m)))

-- With steps of one for d = 4, the eleventh set of five parity disks would be 15 in place of 31. Two data disks with the sets 7 and 15, and the
-- parity disk that tells them apart, are three disks whose loss is fatal: so they are in the code of just these two data disks.
abbrev pub NotByOne : Type 0
NotByOne =
    (take 11 (by_one 3 5) ≡ 7 ∷ 11 ∷ 13 ∷ 14 ∷ 19 ∷ 21 ∷ 22 ∷ 25 ∷ 26 ∷ 28 ∷ 15 ∷ [])
    × (fatal (code 2 4 (3 ∷ 3 ∷ 3 ∷ 2 ∷ [])) 35 ≡ true) × (size 35 ≡ 3)

-- Sets of size d - 1 alone are too few: with three parity disks, three of the four.
abbrev pub NotOneSize : Type 0
NotOneSize = (parity_sets 3 3 ≡ 3 ∷ 5 ∷ 6 ∷ 7 ∷ []) × (filter (λ S. eqb (size S) 2) (range 0 8) ≡ 3 ∷ 5 ∷ 6 ∷ [])

-- ---- the bounds

-- the bounds for d = 4 with subtraction that stops at 0
unfoldable pub stopping : ℕ → ℕ → Bool
stopping m k = ltb (2 ^ (m - 2) - m + 1) k && leb k (2 ^ (m - 1) - m)

-- The mirror of one data disk on three parity disks would be lost.
abbrev pub NotStopping : Type 0
NotStopping = (within_bounds 4 3 1 ≡ true) × (stopping 3 1 ≡ false)

-- ---- the refusals

-- Another distance is told before k outside the bounds.
abbrev pub DistanceFirst : Type 0
DistanceFirst = (stepped_report 5 3 16 0 ≡ refused 20 []) × (within_bounds 5 3 16 ≡ false)
