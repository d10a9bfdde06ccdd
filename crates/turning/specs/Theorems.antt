-- What turning does, in plain words above each statement, for every r and every n. The proofs are those of proofs/.
-- Assumes nothing.
use Rattle.std.specs.Prelude.{◌≡◌, ◌≢◌, List, [], ◌∷◌, ℕ, ◌+◌, ◌*◌, ◌%◌, ◌^◌, ◌<◌, T, length}
use Rattle.gf2.specs.Sets.{has, size}
use Rattle.flat.specs.Cards.{Card, code_of, disks, set_ok}
use Rattle.flat.specs.Strips.{length_ok, byte_of}
use Rattle.flat.specs.Faults.{accepted, refused, card_report, rebuild_report, rebuild_stripe}
use Rattle.turning.specs.Turning.{slot, disk_in, turned, turned_back, disks_of}
use Rattle.turning.specs.Faults.{turn_report, turn_buffer, turn_back_buffer, turned_report, turned_stripe}

-- ---- slots, stripes and sets

-- Each disk has a slot of its own: the disk in its slot is that disk, and the slot of the disk in a slot is that slot.
abbrev pub SlotsUndone : Type 0
SlotsUndone =
    (n r i : ℕ) → i < n
    → (slot n r i < n) × (disk_in n r i < n) × (disk_in n r (slot n r i) ≡ i) × (slot n r (disk_in n r i) ≡ i)

-- A turned stripe is as long, and has disk i's strip in slot (i + r) modulo n.
abbrev pub TurnedHolds : Type 0
TurnedHolds =
    (n L r : ℕ) (stripe : List ℕ) → (length (turned n L r stripe) ≡ n * L)
    × ((t i : ℕ) → t < L → i < n → byte_of L (turned n L r stripe) t ((i + r) % n) ≡ byte_of L stripe t i)

-- One that is turned back has the strip of slot (i + r) modulo n at disk i.
abbrev pub TurnedBackHolds : Type 0
TurnedBackHolds =
    (n L r : ℕ) (stripe : List ℕ) → (length (turned_back n L r stripe) ≡ n * L)
    × ((t i : ℕ) → t < L → i < n → byte_of L (turned_back n L r stripe) t i ≡ byte_of L stripe t ((i + r) % n))

-- Turning and turning back undo each other.
abbrev pub TurnsUndone : Type 0
TurnsUndone =
    (n L r : ℕ) (stripe : List ℕ) → length stripe ≡ n * L
    → (turned_back n L r (turned n L r stripe) ≡ stripe) × (turned n L r (turned_back n L r stripe) ≡ stripe)

-- Disk i is lost where slot (i + r) modulo n is, and as many disks are lost as slots.
abbrev pub LostDisks : Type 0
LostDisks =
    (n r S : ℕ) → S < 2 ^ n
    → (disks_of n r S < 2 ^ n) × ((i : ℕ) → i < n → has (disks_of n r S) i ≡ has S ((i + r) % n)) × (size (disks_of n r S) ≡ size S)

-- ---- the calls

-- A card's own refusal comes first.
abbrev pub CardFirst : Type 0
CardFirst =
    (card : Card) → (card_report card).number ≢ 0
    → ((L n p : ℕ) → turn_report card L n p ≡ card_report card) × ((L r S : ℕ) (stripe : List ℕ) → turned_report card L r S stripe ≡ card_report card)

-- ---- the calls that turn

-- For an accepted card 6 comes first, then 7, for the stripe and for the second buffer; else they are accepted, whatever r is.
pub record TurnsInOrder (card : Card) (L n p : ℕ) : Type 0 where
  pub six : (T (length_ok L) → ⊥) → turn_report card L n p ≡ refused 6 []
  pub seven : T (length_ok L) → n ≢ disks (code_of card) * L → turn_report card L n p ≡ refused 7 []
  pub seven_second : T (length_ok L) → p ≢ disks (code_of card) * L → turn_report card L n p ≡ refused 7 []
  pub done : T (length_ok L) → n ≡ disks (code_of card) * L → p ≡ disks (code_of card) * L → turn_report card L n p ≡ accepted []

abbrev pub TurnRefuses : Type 0
TurnRefuses = (card : Card) (k m L n p : ℕ) → card_report card ≡ accepted (k ∷ m ∷ []) → TurnsInOrder card L n p

-- what an accepted call leaves in the second buffer: slot (i + r) modulo n gets the strip of disk i, and back
pub record RightTurn (card : Card) (L r : ℕ) (stripe buffer : List ℕ) : Type 0 where
  pub there : (t i : ℕ) → t < L → i < disks (code_of card)
      → byte_of L (turn_buffer card L r stripe buffer) t ((i + r) % disks (code_of card)) ≡ byte_of L stripe t i
  pub back : (t i : ℕ) → t < L → i < disks (code_of card)
      → byte_of L (turn_back_buffer card L r stripe buffer) t i ≡ byte_of L stripe t ((i + r) % disks (code_of card))
  pub long : (length (turn_buffer card L r stripe buffer) ≡ length buffer) × (length (turn_back_buffer card L r stripe buffer) ≡ length buffer)

abbrev pub TurnAccepted : Type 0
TurnAccepted =
    (card : Card) (L r : ℕ) (stripe buffer : List ℕ) → turn_report card L (length stripe) (length buffer) ≡ accepted []
    → RightTurn card L r stripe buffer

-- Where a card, L and the lengths of a stripe and of two buffers pass: what turning leaves in a second buffer is turned back into the stripe, and the other
-- way round, whatever the buffers had.
abbrev pub TurnCallsUndone : Type 0
TurnCallsUndone =
    (card : Card) (L r : ℕ) (stripe buffer other : List ℕ) → turn_report card L (length stripe) (length buffer) ≡ accepted []
    → length other ≡ length buffer
    → (turn_back_buffer card L r (turn_buffer card L r stripe buffer) other ≡ stripe)
    × (turn_buffer card L r (turn_back_buffer card L r stripe buffer) other ≡ stripe)

-- ---- the turned rebuild

-- For an accepted card 6 comes first, then 8, of the slots, then 7, whatever else is wrong.
pub record RebuildsInOrder (card : Card) (L r S : ℕ) (stripe : List ℕ) : Type 0 where
  pub six : (T (length_ok L) → ⊥) → turned_report card L r S stripe ≡ refused 6 []
  pub eight : T (length_ok L) → (T (set_ok (code_of card) S) → ⊥) → turned_report card L r S stripe ≡ refused 8 []
  pub seven : T (length_ok L) → T (set_ok (code_of card) S) → length stripe ≢ disks (code_of card) * L
      → turned_report card L r S stripe ≡ refused 7 []

abbrev pub TurnedRefuses : Type 0
TurnedRefuses =
    (card : Card) (k m L r S : ℕ) (stripe : List ℕ) → card_report card ≡ accepted (k ∷ m ∷ []) → RebuildsInOrder card L r S stripe

-- it is rebuilding: the answer is that of rebuilding the stripe turned back, and so is the stripe, once it is turned back
pub record Turns (card : Card) (L r S : ℕ) (stripe buffer : List ℕ) : Type 0 where
  pub answer : turned_report card L r S stripe
      ≡ rebuild_report card L (disks_of (disks (code_of card)) r S) (turn_back_buffer card L r stripe buffer)
  pub strips : turn_back_buffer card L r (turned_stripe card L r S stripe) buffer
      ≡ rebuild_stripe card L (disks_of (disks (code_of card)) r S) (turn_back_buffer card L r stripe buffer)

-- Where card, L, slots and the lengths of stripe and second buffer pass, turning back after the turned rebuild is turning back first and then
-- rebuilding, in the answer too.
abbrev pub TurnedRebuild : Type 0
TurnedRebuild =
    (card : Card) (k m L r S : ℕ) (stripe buffer : List ℕ) → card_report card ≡ accepted (k ∷ m ∷ []) → T (length_ok L) → T (set_ok (code_of card) S)
    → length stripe ≡ disks (code_of card) * L → length buffer ≡ disks (code_of card) * L → Turns card L r S stripe buffer

-- The stripe stays as long, and a slot that is not lost keeps its bytes, whatever is answered.
abbrev pub TurnedKeeps : Type 0
TurnedKeeps =
    (card : Card) (L r S : ℕ) (stripe : List ℕ) → (length (turned_stripe card L r S stripe) ≡ length stripe)
    × ((s t : ℕ) → s < disks (code_of card) → (T (has S s) → ⊥) → t < L → byte_of L (turned_stripe card L r S stripe) t s ≡ byte_of L stripe t s)

-- Bytes of lost slots at entry affect neither the answer nor a slot that is restored.
abbrev pub LostSlotsUnread : Type 0
LostSlotsUnread =
    (card : Card) (L r S : ℕ) (stripe other : List ℕ) → length stripe ≡ length other
    → ((s t : ℕ) → s < disks (code_of card) → (T (has S s) → ⊥) → t < L → byte_of L stripe t s ≡ byte_of L other t s)
    → (turned_report card L r S stripe ≡ turned_report card L r S other)
    × ((turned_report card L r S stripe).number ≡ 0
    → (s t : ℕ) → s < disks (code_of card) → T (has S s) → t < L
    → byte_of L (turned_stripe card L r S stripe) t s ≡ byte_of L (turned_stripe card L r S other) t s)
