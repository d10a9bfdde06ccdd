-- What is proved of the least-wear call, in plain words above each statement. The proofs are those of proofs/Theorems.antt.
-- Assumes nothing.
use Rattle.std.specs.Prelude.{◌≡◌, ◌⊎◌, ◌↔◌, ◌≢◌, List, [], ◌∷◌, ℕ, ◌+◌, ◌^◌, ◌≤◌, ◌<◌, T, length, get_or}
use Rattle.gf2.specs.Sets.{has, ◌⊕◌, ◌⊆◌}
use Rattle.gf2.specs.Span.{InSpan}
use Rattle.gf2.specs.Within.{within}
use Rattle.flat.specs.Lists.{member}
use Rattle.flat.specs.Cards.{Code, Card, code_of, disks, set_ok, wears_of}
use Rattle.flat.specs.Erasures.{survivors, undetermined}
use Rattle.flat.specs.Equations.{equation, equations, Precedes}
use Rattle.flat.specs.Spans.{checks}
use Rattle.flat.specs.Faults.{Report, accepted, refused, card_report}
use Rattle.wear.specs.Wear.{total_wear, lost_with, equations_left, least_wear_tests, least_wear_report}

-- ---- the words of the request

-- The survivors are the code's disks that are not lost and not the disk itself.
abbrev pub DiskAsLost : Type 0
DiskAsLost =
    (C : Code) (S d i : ℕ) → T (has (survivors C (lost_with S d)) i) ↔ ((i < disks C) × (T (has S i) → ⊥) × (i ≢ d))

-- The empty set has no wear, and each of the code's disks adds its own.
abbrev pub WearAdds : Type 0
WearAdds =
    (C : Code) (wears : List ℕ)
    → (total_wear C wears 0 ≡ 0)
    × ((E i : ℕ) → i < disks C → (T (has E i) → ⊥) → total_wear C wears (E ⊕ 2 ^ i) ≡ total_wear C wears E + get_or wears i 0)

-- ---- the value

-- E stands at a place of the list, and lies among the survivors; each earlier one among them totals more, no listed one among them
-- totals less, and no equation at all among them, with a smaller one inside or not.
pub record Least (C : Code) (wears : List ℕ) (d S E : ℕ) : Type 0 where
  pub place : ℕ
  pub stands : place < length (equations C d)
  pub is : get_or (equations C d) place 0 ≡ E
  pub survives : T (E ⊆ survivors C (lost_with S d))
  pub earlier : (i : ℕ) → i < place → T (get_or (equations C d) i 0 ⊆ survivors C (lost_with S d))
      → total_wear C wears E < total_wear C wears (get_or (equations C d) i 0)
  pub listed : (F : ℕ) → T (member F (equations C d)) → T (F ⊆ survivors C (lost_with S d)) → total_wear C wears E ≤ total_wear C wears F
  pub any : (F : ℕ) → T (equation C d F) → T (F ⊆ survivors C (lost_with S d)) → total_wear C wears E ≤ total_wear C wears F

-- The value of every accepted call is such a set.
abbrev pub LeastGiven : Type 0
LeastGiven = (C : Code) (wears : List ℕ) (d S E : ℕ) → least_wear_tests C wears d S ≡ accepted (E ∷ []) → Least C wears d S E

-- And there is no other.
abbrev pub LeastOnly : Type 0
LeastOnly = (C : Code) (wears : List ℕ) (d S E F : ℕ) → Least C wears d S E → Least C wears d S F → E ≡ F

-- ---- 11

-- d has an equation among the survivors
abbrev pub Left : Code → ℕ → ℕ → Type 0
Left C d S = (E : ℕ) × T (E ⊆ survivors C (lost_with S d)) × T (equation C d E)

-- An answer is 11 exactly where the disk has no equation among the survivors, which is where they do not determine it; else an
-- equation is given.
pub record ElevenAt (r : Report) (C : Code) (d S : ℕ) : Type 0 where
  pub none : (r ≡ refused 11 []) ↔ (Left C d S → ⊥)
  pub untold : (r ≡ refused 11 []) ↔ T (undetermined C (lost_with S d) d)
  pub given : Left C d S → (E : ℕ) × (r ≡ accepted (E ∷ []))

-- It is so of a call's answers, for every code, wears, disk of it and set of its disks.
abbrev pub Eleven : (Code → List ℕ → ℕ → ℕ → Report) → Type 0
Eleven answer = (C : Code) (wears : List ℕ) (d S : ℕ) → T (set_ok C S) → d < disks C → ElevenAt (answer C wears d S) C d S

-- It is so of the least-wear call's.
abbrev pub ElevenExactly : Type 0
ElevenExactly = Eleven least_wear_tests

-- ---- what makes no difference

-- The answer is the same whether or not the disk is named as lost.
abbrev pub NamedOrNot : Type 0
NamedOrNot =
    (C : Code) (wears : List ℕ) (d S : ℕ) → d < disks C → least_wear_tests C wears d (lost_with S d) ≡ least_wear_tests C wears d S

-- Where all disks are worn alike, it is the first listed equation among the survivors.
abbrev pub WornAlike : Type 0
WornAlike =
    (C : Code) (wears : List ℕ) (w d S E : ℕ) (Es : List ℕ) → ((i : ℕ) → i < disks C → get_or wears i 0 ≡ w)
    → T (set_ok C S) → d < disks C → equations_left C d S ≡ E ∷ Es
    → least_wear_tests C wears d S ≡ accepted (E ∷ [])

-- ---- the call with a card

-- What is answered for a card: the card's refusal, then 8, then 9; else what is said above, of the card's code and its wears.
pub record RightLeastWear (card : Card) (d S : ℕ) : Type 0 where
  pub card_refused : (card_report card).number ≢ 0 → least_wear_report card d S ≡ card_report card
  pub outside : (card_report card).number ≡ 0 → (T (set_ok (code_of card) S) → ⊥) → least_wear_report card d S ≡ refused 8 []
  pub no_disk : (card_report card).number ≡ 0 → T (set_ok (code_of card) S) → disks (code_of card) ≤ d → least_wear_report card d S ≡ refused 9 []
  pub least : (E : ℕ) → least_wear_report card d S ≡ accepted (E ∷ []) → Least (code_of card) (wears_of card) d S E
  pub eleven : (card_report card).number ≡ 0 → T (set_ok (code_of card) S) → d < disks (code_of card) → ElevenAt (least_wear_report card d S) (code_of card) d S

abbrev pub LeastWearAnswered : Type 0
LeastWearAnswered = (card : Card) (d S : ℕ) → RightLeastWear card d S

-- ---- what code goes by

-- E goes before F: it totals less, or as much and stands before it in the list's order
abbrev pub Better : Code → List ℕ → ℕ → ℕ → Type 0
Better C wears E F =
    (total_wear C wears E < total_wear C wears F) ⊎ ((total_wear C wears E ≡ total_wear C wears F) × Precedes C E F)

-- Where each disk has some wear, an equation among the survivors is the answer if none among them goes before it: that it has no smaller
-- one inside needs no test.
abbrev pub BestIsLeast : Type 0
BestIsLeast =
    (C : Code) (wears : List ℕ) (d S E : ℕ) → ((i : ℕ) → i < disks C → 1 ≤ get_or wears i 0) → T (set_ok C S) → d < disks C
    → T (E ⊆ survivors C (lost_with S d)) → T (equation C d E)
    → ((F : ℕ) → T (F ⊆ survivors C (lost_with S d)) → T (equation C d F) → Better C wears F E → ⊥)
    → least_wear_tests C wears d S ≡ accepted (E ∷ [])

-- Two equations among the survivors differ by a check word among them, and each such word makes of one another.
abbrev pub OthersByWords : Type 0
OthersByWords =
    (C : Code) (d S E F : ℕ) → d < disks C → T (E ⊆ survivors C (lost_with S d)) → T (equation C d E)
    → (T (F ⊆ survivors C (lost_with S d)) × T (equation C d F)) ↔ InSpan (within (survivors C (lost_with S d)) (checks C)) (E ⊕ F)
