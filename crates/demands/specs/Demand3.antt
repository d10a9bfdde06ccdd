-- Demand 3: lister and rebuilder share one verdict. One statement, with the definitions that the public contracts cite.
-- The proof is `demand3` of proofs/Demand3.antt.
-- Assumes nothing.
use Rattle.std.specs.Prelude.{◌≡◌, ◌⊎◌, ◌≢◌, ◌↔◌, List, [], ◌∷◌, ℕ, ◌*◌, ◌^◌, ◌≤◌, ◌<◌, T, length, get_or, take}
use Rattle.gf2.specs.Sets.{has, size, ◌⊆◌}
use Rattle.flat.specs.Lists.{member}
use Rattle.flat.specs.Cards.{Card, code_of, disks, set_ok, data_part}
use Rattle.flat.specs.Strips.{length_ok, byte_of, given}
use Rattle.flat.specs.Erasures.{survivors, fatal, minimal_erasure, erasures}
use Rattle.flat.specs.Equations.{minimal_equation, equations, Precedes}
use Rattle.flat.specs.Rebuilding.{Agreeing}
use Rattle.flat.specs.Faults.{accepted, refused, card_report, verdict_report, erasures_report, erasures_slice, equations_report, equations_slice, rebuild_report, rebuild_stripe}

-- what the lister writes into a slice, and what the equation call writes for disk d: as many entries as they count
abbrev pub listed : Card → List ℕ → List ℕ
listed card slice = take (length (erasures (code_of card))) (erasures_slice card slice)

abbrev pub told : Card → ℕ → List ℕ → List ℕ
told card d slice = take (length (equations (code_of card) d)) (equations_slice card d slice)

-- the five that agree: the first is that the set is fatal; the verdict call says so by a set that is not empty (document 02, request [5])
pub record OneVerdict (card : Card) (S L : ℕ) (stripe slice : List ℕ) (slices : ℕ → List ℕ) : Type 0 where
  pub verdict : T (fatal (code_of card) S) ↔ ((U : ℕ) × (U ≢ 0) × (verdict_report card S ≡ accepted (U ∷ [])))
  pub entry : T (fatal (code_of card) S) ↔ ((R : ℕ) × T (member R (listed card slice)) × T (R ⊆ S))
  pub untold : T (fatal (code_of card) S)
      ↔ ((d : ℕ) × (d < disks (code_of card)) × T (has S d)
      × (((E : ℕ) × T (member E (told card d (slices d))) × T (E ⊆ survivors (code_of card) S)) → ⊥))
  pub rebuilder : T (fatal (code_of card) S) ↔ (rebuild_report card L S stripe ≡ refused 11 [])

-- the lister's list: complete and exact; once and in order
pub record RightList (card : Card) (slice : List ℕ) : Type 0 where
  pub count : erasures_report card (length slice) ≡ accepted (length (erasures (code_of card)) ∷ [])
  pub exact : (R : ℕ) → T (member R (listed card slice)) ↔ ((R < 2 ^ disks (code_of card)) × T (minimal_erasure (code_of card) R))
  pub ordered : (i j : ℕ) → i < j → j < length (listed card slice)
      → let R = get_or (listed card slice) i 0 in
      let S = get_or (listed card slice) j 0 in
      (size R < size S) ⊎ ((size R ≡ size S) × (data_part (code_of card) R < data_part (code_of card) S))

-- the equation call's list of disk d, in the order of document 02, request [6]
pub record RightEquations (card : Card) (d : ℕ) (slice : List ℕ) : Type 0 where
  pub count : equations_report card d (length slice) ≡ accepted (length (equations (code_of card) d) ∷ [])
  pub exact : (E : ℕ) → T (member E (told card d slice)) ↔ ((E < 2 ^ disks (code_of card)) × T (minimal_equation (code_of card) d E))
  pub ordered : (i j : ℕ) → i < j → j < length (told card d slice)
      → Precedes (code_of card) (get_or (told card d slice) i 0) (get_or (told card d slice) j 0)

-- a set that is not fatal: refused exactly where no content agrees; else only one does, each lost strip becomes what it gives, and
-- the other strips keep their bytes
pub record Restored (card : Card) (S L : ℕ) (stripe content : List ℕ) : Type 0 where
  pub answer : rebuild_report card L S stripe ≡ accepted (size S ∷ [])
  pub only : (other : List ℕ) → Agreeing (code_of card) L S stripe other → other ≡ content
  pub lost : (i t : ℕ) → i < disks (code_of card) → t < L → T (has S i)
      → byte_of L (rebuild_stripe card L S stripe) t i ≡ byte_of L (given (code_of card) L content) t i
  pub others : (i t : ℕ) → i < disks (code_of card) → t < L → (T (has S i) → ⊥)
      → byte_of L (rebuild_stripe card L S stripe) t i ≡ byte_of L stripe t i

pub record RightRebuild (card : Card) (S L : ℕ) (stripe : List ℕ) : Type 0 where
  pub none : (rebuild_report card L S stripe ≡ refused 12 []) ↔ ((content : List ℕ) → Agreeing (code_of card) L S stripe content → ⊥)
  pub some : (content : List ℕ) → Agreeing (code_of card) L S stripe content → Restored card S L stripe content
  pub decided : (rebuild_report card L S stripe ≡ refused 12 []) ⊎ ((content : List ℕ) × Agreeing (code_of card) L S stripe content)

-- For every accepted card, set of its disks, L, stripe, and slices at least as long as the counts.
abbrev pub Demand3 : Type 0
Demand3 =
    (card : Card) (k m S L : ℕ) (stripe slice : List ℕ) (slices : ℕ → List ℕ)
    → card_report card ≡ accepted (k ∷ m ∷ []) → T (set_ok (code_of card) S) → T (length_ok L)
    → length stripe ≡ disks (code_of card) * L
    → length (erasures (code_of card)) ≤ length slice
    → ((d : ℕ) → d < disks (code_of card) → length (equations (code_of card) d) ≤ length (slices d))
    → OneVerdict card S L stripe slice slices
    × RightList card slice
    × ((d : ℕ) → d < disks (code_of card) → RightEquations card d (slices d))
    × ((T (fatal (code_of card) S) → ⊥) → RightRebuild card S L stripe)
