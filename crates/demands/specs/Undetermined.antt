-- Document 02, request [5]: fatal means that the set which the verdict call gives isn't empty, and list and rebuilder agree with it, disk by disk.
-- The proof is `one_set` of proofs/Undetermined.antt.
-- Assumes nothing.
use Rattle.std.specs.Prelude.{◌≡◌, ◌≢◌, ◌↔◌, List, [], ◌∷◌, ℕ, ◌*◌, ◌^◌, ◌≤◌, ◌<◌, T, length}
use Rattle.gf2.specs.Sets.{has, ◌⊆◌}
use Rattle.flat.specs.Lists.{member}
use Rattle.flat.specs.Cards.{Code, Card, code_of, disks, set_ok}
use Rattle.flat.specs.Strips.{length_ok}
use Rattle.flat.specs.Erasures.{holds_bit, survivors, fatal, undetermined_set, erasures}
use Rattle.flat.specs.Equations.{equations}
use Rattle.flat.specs.Rebuilding.{Agreeing}
use Rattle.flat.specs.Faults.{accepted, refused, card_report, verdict_report, rebuild_report}
use Rattle.partial_rebuilding.specs.Faults.{partial_report}
use Rattle.demands.specs.Demand3.{listed, told}

-- two data words, alike on the survivors of S, which differ on disk d
pub record Differing (C : Code) (S d : ℕ) : Type 0 where
  pub x : ℕ
  pub y : ℕ
  pub x_word : x < 2 ^ C.k
  pub y_word : y < 2 ^ C.k
  pub alike : (i : ℕ) → i < disks C → (T (has S i) → ⊥) → holds_bit C x i ≡ holds_bit C y i
  pub differ : holds_bit C x d ≢ holds_bit C y d

-- U is the set of undetermined disks
pub record AgreesWith (card : Card) (S L : ℕ) (stripe slice : List ℕ) (slices : ℕ → List ℕ) (U : ℕ) : Type 0 where
  -- the verdict call gives it: lost disks alone, those on which two data words differ that are alike on the survivors
  pub verdict : verdict_report card S ≡ accepted (U ∷ [])
  pub lost : T (U ⊆ S)
  pub words : (d : ℕ) → d < disks (code_of card) → T (has U d) ↔ Differing (code_of card) S d
  -- the lost set is fatal exactly where U isn't empty, and exactly there the rebuilder refuses it as fatal
  pub not_empty : T (fatal (code_of card) S) ↔ (U ≢ 0)
  pub rebuilder : (rebuild_report card L S stripe ≡ refused 11 []) ↔ (U ≢ 0)
  -- a disk is in it exactly where some listed set inside the lost set holds it
  pub entry : (d : ℕ) → T (has U d) ↔ ((R : ℕ) × T (member R (listed card slice)) × T (R ⊆ S) × T (has R d))
  -- and, of a lost disk, exactly where no listed equation of it lies among the survivors
  pub untold : (d : ℕ) → d < disks (code_of card) → T (has S d)
      → T (has U d) ↔ (((E : ℕ) × T (member E (told card d (slices d))) × T (E ⊆ survivors (code_of card) S)) → ⊥)
  -- the second rebuild call answers it where some content agrees
  pub partial : (content : List ℕ) → Agreeing (code_of card) L S stripe content → partial_report card L S stripe ≡ accepted (U ∷ [])

-- For every accepted card, set of its disks, L, stripe, and slices at least as long as the counts.
abbrev pub OneSet : Type 0
OneSet =
    (card : Card) (k m S L : ℕ) (stripe slice : List ℕ) (slices : ℕ → List ℕ)
    → card_report card ≡ accepted (k ∷ m ∷ []) → T (set_ok (code_of card) S) → T (length_ok L)
    → length stripe ≡ disks (code_of card) * L
    → length (erasures (code_of card)) ≤ length slice
    → ((d : ℕ) → d < disks (code_of card) → length (equations (code_of card) d) ≤ length (slices d))
    → AgreesWith card S L stripe slice slices (undetermined_set (code_of card) S)
