-- What a caller of the reader's check knows from its answer: of a good record its counts and its card, and of a bad one that its fault
-- is what the caller's call answers.
-- Assumes nothing.
use mathlib.Core.Path.{◌≡◌, refl, sym, ap, ◌∙◌}
use mathlib.Core.Bool.{false}
use mathlib.Core.List.{List, [], ◌∷◌}
use Prim.Native.Nat.{ℕ, ◌+◌, ◌≤◌}
use native.Mathlib.Omega.{arith}
use lib.Dec.{eqb}
use lib.ListN.{length}
use Rattle.flat.specs.Lists.{padded}
use Rattle.flat.specs.Cards.{Code, code_of, card_length, edition_one}
use Rattle.record_format.specs.Records.{strips_at, body_at, body_in}
use Rattle.flat.specs.Faults.{Report, accepted, unless_refused}
use Rattle.record_format.specs.Faults.{with_record, record_report, record_columns}
use Rattle.flat.proofs.Reports.{unless_number, unless_other, as_refused}
use Rattle.flat.proofs.Lengths.{length_in_lem}
use Rattle.record_format.proofs.Received.{Received, received, with_refused_record}
use Rattle.card.proofs.Laws.{fault_refuses}
use Rattle.record_reader.specs.declared.RecordFault.{RecordFault}
use Rattle.record_reader.specs.declared.RecordFault.TheVariants as fault
use Rattle.record_reader.specs.Reports.{record_fault_report}

-- ---- a bad record

-- a fault's number is not 0
pub bad_refuses : (f : RecordFault) → eqb (record_fault_report f).number 0 ≡ false
bad_refuses fault.Mark = refl
bad_refuses fault.StripLength = refl
bad_refuses fault.Contents = refl
bad_refuses (fault.Card f) = fault_refuses f
bad_refuses fault.FileLength = refl

-- a report that is a fault's refuses
module _ {A : Type 0} where
  pub unless_bad : (f : RecordFault) (r : Report) (new old : A) → record_fault_report f ≡ r → unless_refused r new old ≡ old
  unless_bad f r new old e = sym (unless_other r new old (ap (λ (x : Report). eqb x.number 0) (sym e) ∙ bad_refuses f))

pub bad_record : (file : List ℕ) (f : RecordFault) (answer : Code → Report) → record_fault_report f ≡ record_report file
    → with_record file answer ≡ record_fault_report f
bad_record file f answer e =
    let r = as_refused (record_fault_report f) (bad_refuses f) in with_refused_record file _ _ answer (sym e ∙ r) ∙ sym r

-- ---- a good record

-- where the check found it good
pub record GoodRecord (file : List ℕ) (k m L S : ℕ) : Type 0 where
  pub k_in : (1 ≤ k) × (k ≤ 16)
  pub m_in : (1 ≤ m) × (m ≤ 16)
  pub short : L ≤ 65536
  -- contents and card do not lie past the end
  pub front : strips_at (k + m) (card_length m) ≤ length file
  pub found : record_report file ≡ accepted (k ∷ m ∷ L ∷ S ∷ [])
  pub known : Received file k m L S

pub good : (file : List ℕ) (k m L S : ℕ) → accepted (k ∷ m ∷ L ∷ S ∷ []) ≡ record_report file → GoodRecord file k m L S
unfolding body_at
good file k m L S e =
    let r = received file k m L S (sym e) in
    record { k_in = r.k_in; m_in = r.m_in; short = (length_in_lem L r.length_ok_lem).1; front = omega (arith, r.size); found = sym e; known = r }

-- its columns, as the code reads them, are those of its card's code
pub columns_good : (file columns : List ℕ) (C : Code) (r : Report) → C ≡ code_of (edition_one (body_in file 0)) → columns ≡ padded 16 C.columns
    → r ≡ record_report file → r.number ≡ 0 → columns ≡ record_columns file
unfolding record_columns
columns_good file columns C r is e found zero =
    let D = code_of (edition_one (body_in file 0)) in
    e ∙ ap (λ (X : Code). padded 16 X.columns) is
    ∙ ap (padded 16) (sym (unless_number (record_report file) D.columns [] (ap (λ (x : Report). x.number) (sym found) ∙ zero)))
