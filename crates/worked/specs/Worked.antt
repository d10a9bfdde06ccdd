-- Document 01, "Worked codes": the sole proposition over the table. It is proved in proofs/Worked.antt.
-- Assumes nothing.
use Rattle.std.specs.Prelude.{◌≡◌, true, false, List, [], ◌∷◌, ◌++◌, ℕ, take, drop}
use Rattle.flat.specs.Lists.{member}
use Rattle.flat.specs.Cards.{card_bytes, edition_one}
use Rattle.flat.specs.Erasures.{fatal, erasures, vector}
use Rattle.flat.specs.Equations.{equations}
use Rattle.flat.specs.Faults.{card_report, encode_stripe, erasures_report, rebuild_report, rebuild_stripe}
use Rattle.worked.specs.Table.{Listed, Equated, Encoded, Rebuilt, Read, Lent, C1, C2, C3, C4, C5, C6, C7, C8, C9, C10, C11, C12}

-- ---- a row holds where the definitions give what it expects

-- each entry of a list has P
module _ {A : Type 0} (P : A → Type 0) where
  abbrev pub Each : List A → Type 0
  Each [] = Unit {0}
  Each (x ∷ xs) = P x × Each xs

pub record Lists (C : Listed) : Type 0 where
  pub list : erasures C.of ≡ C.list
  pub counts : vector C.of ≡ C.counts
  pub unlisted : Each (λ S. (fatal C.of S ≡ true) × (member S (erasures C.of) ≡ false)) C.unlisted

abbrev pub Equates : Equated → Type 0
Equates C = equations C.of C.disk ≡ C.list

abbrev pub Encodes : Encoded → Type 0
Encodes C = encode_stripe (edition_one (card_bytes C.of)) C.L C.entry ≡ C.exit

pub record Rebuilds (C : Rebuilt) : Type 0 where
  pub answer : rebuild_report (edition_one (card_bytes C.of)) C.L C.lost C.entry ≡ C.answer
  pub stripe : rebuild_stripe (edition_one (card_bytes C.of)) C.L C.lost C.entry ≡ C.exit

abbrev pub Reads : Read → Type 0
Reads C = card_report (edition_one C.card) ≡ C.answer

abbrev pub Fits : Lent → Type 0
Fits C = erasures_report (edition_one (card_bytes C.of)) C.entries ≡ C.answer

-- ---- the proposition

pub record Worked : Type 0 where
  pub c1 : Lists C1
  pub c2 : Equates C2
  pub c3 : Lists C3
  pub c4 : Lists C4
  pub c5 : Lists C5
  pub c6 : Lists C6
  pub c7 : Encodes C7
  pub c8 : Rebuilds C8
  pub c9 : Rebuilds C9
  pub c10 : Rebuilds C10
  pub c11 : Each Reads C11
  pub c12 : Each Fits C12

-- ---- an addition to C7 and C8

-- the parity strips of C7 and the lost strips of C8 may hold any bytes at entry: the same comes out
pub record AnyBytes : Type 0 where
  pub parity : (p q r : ℕ) → encode_stripe (edition_one (card_bytes C7.of)) C7.L (take 4 C7.entry ++ (p ∷ q ∷ r ∷ [])) ≡ C7.exit
  pub lost : (a b c : ℕ)
      → (rebuild_report (edition_one (card_bytes C8.of)) C8.L C8.lost (a ∷ b ∷ c ∷ drop 3 C8.entry) ≡ C8.answer)
      × (rebuild_stripe (edition_one (card_bytes C8.of)) C8.L C8.lost (a ∷ b ∷ c ∷ drop 3 C8.entry) ≡ C8.exit)
