-- What is proved of cards that are alike, in plain words above each statement. The proofs are those of proofs/.
-- Assumes nothing.
use Rattle.std.specs.Prelude.{◌≡◌, ◌≢◌, ◌↔◌, List, [], ◌∷◌, map, ℕ, ◌^◌, ◌<◌, T, length, get_or}
use Rattle.gf2.specs.Sets.{has}
use Rattle.flat.specs.Lists.{Permutes}
use Rattle.flat.specs.Cards.{Code, Card, code_of, disks}
use Rattle.flat.specs.Strips.{byte_of, holds}
use Rattle.flat.specs.Erasures.{erasures, vector}
use Rattle.flat.specs.Alike.{occurrences, as_often, rearranged, alike}
use Rattle.flat.specs.Faults.{accepted, card_report, encode_report, encode_stripe, erasures_report, erasures_vector, erasures_slice, alike_report}
use Rattle.renumbering.specs.Renumbering.{Renumbering, place, renumbered}

-- ---- what alike means

-- Two codes are alike exactly where some renumbering of the parity disks carries the one to the other.
abbrev pub AlikeRenumbers : Type 0
AlikeRenumbers = (A B : Code) → T (alike A B) ↔ ((π : ℕ → ℕ) × Renumbering A B π)

-- That is where k and m are equal, and every column stands as often in the one as in the other.
abbrev pub AlikeOccurrences : Type 0
AlikeOccurrences =
    (A B : Code) → T (alike A B) ↔ ((A.k ≡ B.k) × (A.m ≡ B.m) × ((c : ℕ) → occurrences A c ≡ occurrences B c))

-- Where there are as many columns in both, it is enough to look at those of the one.
abbrev pub OneSide : Type 0
OneSide = (A B : Code) → A.m ≡ B.m → as_often A B ≡ rearranged A B

-- So it is an equivalence, and codes fall into articles by it.
pub record AlikeEquivalence : Type 0 where
  pub reflexive : (A : Code) → T (alike A A)
  pub symmetric : (A B : Code) → T (alike A B) → T (alike B A)
  pub transitive : (A B C : Code) → T (alike A B) → T (alike B C) → T (alike A C)

-- ---- what a renumbering does

-- The disks interchange: no two go to one place, and a data disk stays; at a disk's place stands what it holds, whatever the data disks hold, bits
-- or bytes; and a set becomes that of its disks' places.
pub record Interchange (A B : Code) (π : ℕ → ℕ) : Type 0 where
  pub permutes : Permutes (disks A) (place A π)
  pub data_stays : (d : ℕ) → d < A.k → place A π d ≡ d
  pub same : (v : ℕ → ℕ) (d : ℕ) → d < disks A → holds B v (place A π d) ≡ holds A v d
  pub inside : (S : ℕ) → renumbered A π S < 2 ^ disks A
  pub sets : (S d : ℕ) → d < disks A → has (renumbered A π S) (place A π d) ≡ has S d

abbrev pub DisksInterchange : Type 0
DisksInterchange = (A B : Code) (π : ℕ → ℕ) → Renumbering A B π → Interchange A B π

-- After a renumbering the lists of minimal erasures match entry for entry, and the vectors are equal.
abbrev pub ErasuresMatch : Type 0
ErasuresMatch =
    (A B : Code) (π : ℕ → ℕ) → Renumbering A B π
    → (erasures B ≡ map (renumbered A π) (erasures A)) × (vector B ≡ vector A)

-- ---- the calls

-- Of two cards, with such a renumbering: the lister gives the same answer for both, and the same vector; of what it writes for them, into any two
-- slices that it accepts, entry e of the second card is that of the first, renumbered, and there are as many; the encoder gives the same answer
-- for both, and makes of the same data strips the same strips, each at its disk's new place.
pub record Matched (first second : Card) (π : ℕ → ℕ) : Type 0 where
  pub answers : (n : ℕ) → erasures_report second n ≡ erasures_report first n
  pub vectors : (n : ℕ) → erasures_vector second n ≡ erasures_vector first n
  pub lists : (slice other : List ℕ) (c d : ℕ)
      → erasures_report first (length slice) ≡ accepted (c ∷ []) → erasures_report second (length other) ≡ accepted (d ∷ [])
      → (d ≡ c)
      × ((e : ℕ) → e < c → get_or (erasures_slice second other) e 0 ≡ renumbered (code_of first) π (get_or (erasures_slice first slice) e 0))
  pub encodes : (L n : ℕ) → encode_report second L n ≡ encode_report first L n
  pub strips : (L t d : ℕ) (stripe other : List ℕ)
      → encode_report first L (length stripe) ≡ accepted [] → length other ≡ length stripe
      → t < L → ((i : ℕ) → i < (code_of first).k → byte_of L other t i ≡ byte_of L stripe t i) → d < disks (code_of first)
      → byte_of L (encode_stripe second L other) t (place (code_of first) π d) ≡ byte_of L (encode_stripe first L stripe) t d

-- a card that is accepted
abbrev pub Read : Card → Type 0
Read card = (k : ℕ) × (m : ℕ) × (card_report card ≡ accepted (k ∷ m ∷ []))

-- What the call answers: the first card's refusal, then the second's; yes exactly where both cards are accepted and some renumbering carries the
-- first to the second, and no exactly where both are accepted and none does. Where it answers yes, the cards match by each that does.
pub record RightAlike (first second : Card) : Type 0 where
  pub first_refused : (card_report first).number ≢ 0 → alike_report first second ≡ card_report first
  pub second_refused : Read first → (card_report second).number ≢ 0 → alike_report first second ≡ card_report second
  pub yes : (alike_report first second ≡ accepted (1 ∷ []))
      ↔ (Read first × Read second × ((π : ℕ → ℕ) × Renumbering (code_of first) (code_of second) π))
  pub no : (alike_report first second ≡ accepted (0 ∷ []))
      ↔ (Read first × Read second × ((π : ℕ → ℕ) → Renumbering (code_of first) (code_of second) π → ⊥))
  pub matched : alike_report first second ≡ accepted (1 ∷ []) → (π : ℕ → ℕ) → Renumbering (code_of first) (code_of second) π → Matched first second π

abbrev pub AlikeAnswered : Type 0
AlikeAnswered = (first second : Card) → RightAlike first second
