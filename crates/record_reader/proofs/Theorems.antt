-- A report tells the answer that gave it: each answer is computed back from its report.
-- Assumes nothing.
use mathlib.Core.Path.{◌≡◌, refl, sym, ap, ◌∙◌}
use lib.Dec.{eqb}
use lib.ListN.{get_or}
use Rattle.std.specs.Prelude.{Result, Ok, Err, if◌then◌else◌}
use Rattle.flat.specs.Faults.{Report}
use Rattle.card.proofs.Theorems.{carried, carried-back}
use Rattle.record_reader.specs.declared.RecordFault.{RecordFault}
use Rattle.record_reader.specs.declared.RecordFault.TheVariants as fault
use Rattle.record_reader.specs.declared.RecordInfo.{RecordInfo}
use Rattle.record_reader.specs.Reports.{record_fault_report, report}
use Rattle.record_reader.specs.Theorems.{FaultInjective, CheckInjective}

-- an answer that carries a record's fault, where the number is one of a record's, else another
module _ {A : Type 0} where
  abbrev pub sent : Report → (RecordFault → A) → A → A
  sent r answer other =
      carried r (λ f. answer (fault.Card f))
      (if eqb r.number 6 then answer fault.StripLength else
      if eqb r.number 13 then answer fault.Mark else
      if eqb r.number 14 then answer fault.Contents else
      if eqb r.number 15 then answer fault.FileLength else
      other)

  pub sent_back : (f : RecordFault) (answer : RecordFault → A) (other : A) → sent (record_fault_report f) answer other ≡ answer f
  sent_back fault.Mark answer other = refl
  sent_back fault.StripLength answer other = refl
  sent_back fault.Contents answer other = refl
  sent_back (fault.Card f) answer other = carried-back f (λ g. answer (fault.Card g)) _
  sent_back fault.FileLength answer other = refl

abbrev check_from : Report → Result RecordInfo RecordFault
check_from r =
    sent r Err
    (Ok (record { k = get_or r.values 0 0; m = get_or r.values 1 0; l = get_or r.values 2 0; lost = get_or r.values 3 0 }))

check-back : (a : Result RecordInfo RecordFault) → check_from (report a) ≡ a
check-back (Ok found) = refl
check-back (Err f) = sent_back f Err _

pub fault_injective : FaultInjective
fault_injective a b e =
    sym (sent_back a (λ f. f) fault.Mark) ∙ ap (λ (r : Report). sent r (λ f. f) fault.Mark) e ∙ sent_back b (λ f. f) fault.Mark

pub check_injective : CheckInjective
check_injective a b e = sym (check-back a) ∙ ap check_from e ∙ check-back b
