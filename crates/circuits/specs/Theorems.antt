-- What is proved of the entries, in plain words above each statement. The proofs are those of proofs/Theorems.antt.
-- Assumes nothing.
use Rattle.std.specs.Prelude.{◌≡◌, ◌≢◌, List, [], ◌∷◌, ℕ, ◌≤◌, T, length}
use Rattle.gf2.specs.Sets.{has, ◌⊕◌, ◌⊆◌}
use Rattle.flat.specs.Cards.{Code, Card, code_of}
use Rattle.flat.specs.Erasures.{erasures}
use Rattle.flat.specs.Faults.{accepted, card_report}
use Rattle.demands.specs.Demand3.{listed}
use Rattle.circuits.specs.Circuits.{Circuits}

-- The minimal erasures of every code meet the three claims.
abbrev pub ErasuresAreCircuits : Type 0
ErasuresAreCircuits = (C : Code) → Circuits C.m (erasures C)

-- For every accepted card, with the m that the card check answers, so do the entries that the lister writes, into any slice at least as long as
-- their count: those of which `Demand3` speaks.
abbrev pub EntriesAreCircuits : Type 0
EntriesAreCircuits =
    (card : Card) (slice : List ℕ) (k m : ℕ) → card_report card ≡ accepted (k ∷ m ∷ []) → length (erasures (code_of card)) ≤ length slice
    → Circuits m (listed card slice)

-- Where two sets overlap, what lies within the disks that belong to just one of them is neither of the two: the third is another entry.
abbrev pub ThirdIsAnother : Type 0
ThirdIsAnother = (R S Q d : ℕ) → T (has R d) → T (has S d) → T (Q ⊆ R ⊕ S) → (Q ≢ R) × (Q ≢ S)
