-- What a partial rebuild does, in plain words above each statement. The proofs are those of proofs/.
-- That contents which agree give each determined disk one strip is `OneStrip` of flat/specs/Rebuilt.antt, and that each determined lost disk
-- has an equation among the survivors is `EquationLeft` there; that an undetermined disk lies in a listed set, and that the determined disks are
-- the other lost ones, are `UndeterminedListed` and `DeterminedRest` of flat/specs/Theorems.antt.
-- Assumes nothing.
use Rattle.std.specs.Prelude.{◌≡◌, ◌⊎◌, ◌≢◌, ◌↔◌, List, [], ◌∷◌, ℕ, ◌*◌, ◌<◌, T, length}
use Rattle.gf2.specs.Sets.{has}
use Rattle.flat.specs.Cards.{Code, Card, code_of, disks, set_ok}
use Rattle.flat.specs.Strips.{length_ok, byte_of, given}
use Rattle.flat.specs.Erasures.{undetermined_set}
use Rattle.flat.specs.Rebuilding.{Agreeing}
use Rattle.flat.specs.Faults.{accepted, refused, unless_refused, card_report, verdict_report, rebuild_report, rebuild_stripe}
use Rattle.partial_rebuilding.specs.Faults.{partial_report, partial_stripe}

-- ---- what is undetermined

-- Where a content agrees, another one that agrees differs from it on a given undetermined disk, in every byte.
abbrev pub UndeterminedDiffer : Type 0
UndeterminedDiffer =
    (C : Code) (L S : ℕ) (stripe content : List ℕ) (d : ℕ) → Agreeing C L S stripe content → T (has (undetermined_set C S) d)
    → (other : List ℕ) × Agreeing C L S stripe other
    × ((t : ℕ) → t < L → byte_of L (given C L content) t d ≢ byte_of L (given C L other) t d)

-- ---- the call

-- what it does for a content that agrees: each lost disk that is not undetermined becomes what that content gives, and the others keep their bytes
pub record PartlyRestored (card : Card) (S L : ℕ) (stripe content : List ℕ) : Type 0 where
  pub answer : partial_report card L S stripe ≡ accepted (undetermined_set (code_of card) S ∷ [])
  pub determined : (i t : ℕ) → i < disks (code_of card) → t < L → T (has S i) → (T (has (undetermined_set (code_of card) S) i) → ⊥)
      → byte_of L (partial_stripe card L S stripe) t i ≡ byte_of L (given (code_of card) L content) t i
  pub undetermined : (i t : ℕ) → i < disks (code_of card) → t < L → T (has (undetermined_set (code_of card) S) i)
      → byte_of L (partial_stripe card L S stripe) t i ≡ byte_of L stripe t i
  pub survivors : (i t : ℕ) → i < disks (code_of card) → t < L → (T (has S i) → ⊥)
      → byte_of L (partial_stripe card L S stripe) t i ≡ byte_of L stripe t i

-- 12 exactly where no content agrees; else it does this for each that agrees
pub record RightPartial (card : Card) (S L : ℕ) (stripe : List ℕ) : Type 0 where
  pub none : (partial_report card L S stripe ≡ refused 12 []) ↔ ((content : List ℕ) → Agreeing (code_of card) L S stripe content → ⊥)
  pub some : (content : List ℕ) → Agreeing (code_of card) L S stripe content → PartlyRestored card S L stripe content
  pub decided : (partial_report card L S stripe ≡ refused 12 []) ⊎ ((content : List ℕ) × Agreeing (code_of card) L S stripe content)
  pub long : length (partial_stripe card L S stripe) ≡ length stripe

-- For every accepted card, set of its disks, fatal or not, L and stripe.
abbrev pub PartialRight : Type 0
PartialRight =
    (card : Card) (k m S L : ℕ) (stripe : List ℕ) → card_report card ≡ accepted (k ∷ m ∷ []) → T (set_ok (code_of card) S) → T (length_ok L)
    → length stripe ≡ disks (code_of card) * L → RightPartial card S L stripe

-- For an accepted card 6 comes first, then 8, then 7, whatever else is wrong.
pub record RefusesInOrder (card : Card) (L S : ℕ) (stripe : List ℕ) : Type 0 where
  pub six : (T (length_ok L) → ⊥) → partial_report card L S stripe ≡ refused 6 []
  pub eight : T (length_ok L) → (T (set_ok (code_of card) S) → ⊥) → partial_report card L S stripe ≡ refused 8 []
  pub seven : T (length_ok L) → T (set_ok (code_of card) S) → length stripe ≢ disks (code_of card) * L → partial_report card L S stripe ≡ refused 7 []

abbrev pub PartialRefuses : Type 0
PartialRefuses =
    (card : Card) (k m L S : ℕ) (stripe : List ℕ) → card_report card ≡ accepted (k ∷ m ∷ []) → RefusesInOrder card L S stripe

-- The verdict call refuses a set with a disk that the code lacks.
abbrev pub VerdictRefuses : Type 0
VerdictRefuses =
    (card : Card) (k m S : ℕ) → card_report card ≡ accepted (k ∷ m ∷ []) → (T (set_ok (code_of card) S) → ⊥) → verdict_report card S ≡ refused 8 []

-- The second rebuild call never gives 11.
abbrev pub NeverFatal : Type 0
NeverFatal = (card : Card) (L S : ℕ) (stripe : List ℕ) → (partial_report card L S stripe).number ≢ 11

-- it is rebuilding: it gives the refusals that rebuilding gives, else 0, and leaves the same stripe
abbrev pub AsRebuilding : Card → ℕ → ℕ → List ℕ → Type 0
AsRebuilding card L S stripe =
    (partial_report card L S stripe ≡ unless_refused (rebuild_report card L S stripe) (accepted (0 ∷ [])) (rebuild_report card L S stripe))
    × (partial_stripe card L S stripe ≡ rebuild_stripe card L S stripe)

-- Where nothing is undetermined.
abbrev pub PartialWhole : Type 0
PartialWhole = (card : Card) (L S : ℕ) (stripe : List ℕ) → undetermined_set (code_of card) S ≡ 0 → AsRebuilding card L S stripe

-- And wherever rebuilding does not give 11: so for every set the tests before that stand in the same order.
abbrev pub PartialElsewhere : Type 0
PartialElsewhere = (card : Card) (L S : ℕ) (stripe : List ℕ) → (rebuild_report card L S stripe).number ≢ 11 → AsRebuilding card L S stripe

-- Bytes of lost strips at entry affect neither the answer nor a strip that is restored.
abbrev pub PartialBytesUnread : Type 0
PartialBytesUnread =
    (card : Card) (L S : ℕ) (stripe other : List ℕ) → length stripe ≡ length other
    → ((i t : ℕ) → i < disks (code_of card) → (T (has S i) → ⊥) → t < L → byte_of L stripe t i ≡ byte_of L other t i)
    → (partial_report card L S stripe ≡ partial_report card L S other)
    × ((partial_report card L S stripe).number ≡ 0
    → (i t : ℕ) → i < disks (code_of card) → T (has S i) → (T (has (undetermined_set (code_of card) S) i) → ⊥) → t < L
    → byte_of L (partial_stripe card L S stripe) t i ≡ byte_of L (partial_stripe card L S other) t i)
