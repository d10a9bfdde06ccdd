-- The arrays of an exported call: written where the call is accepted, and left as they were where it is refused.
-- Assumes nothing.
use mathlib.Core.Path.{◌≡◌, refl, sym, ap, ap₂, ◌∙◌, subst}
use mathlib.Core.Bool.{false}
use mathlib.Core.List.{List, [], ◌∷◌}
use Prim.Native.Nat.{ℕ, ◌%◌}
use borrow.Author.Tests.{ne_eqb, eqb-false}
use lib.Dec.{eqb}
use Rattle.flat.specs.Faults.{Report, accepted, unless_refused}
use Rattle.flat.proofs.Reports.{unless_accepted, unless_other}
use Rattle.card.specs.declared.CardFault.{CardFault}
use Rattle.card.specs.Reports.{fault_report}
use Rattle.card.proofs.Laws.{fault_refuses}
use Rattle.erasures.specs.declared.ListError.{ListError}
use Rattle.erasures.specs.declared.ListError.TheVariants as listed
use Rattle.erasures.specs.Reports.{report as listed_report}
use Rattle.record_reader.specs.declared.RecordFault.{RecordFault}
use Rattle.record_reader.specs.Reports.{record_fault_report}
use Rattle.record_reader.proofs.Callers.{bad_refuses}
use Rattle.record.specs.declared.bodies.BodyError.{BodyError}
use Rattle.record.specs.declared.bodies.BodyError.TheVariants as body
use Rattle.record.specs.declared.bodies.BodyPlace.{BodyPlace}
use Rattle.record.specs.Reports.{error_report as body_report, report as body_answer, there}
use Rattle.tray.specs.declared.TrayError.{TrayError}
use Rattle.tray.specs.declared.TrayError.TheVariants as tray
use Rattle.tray.specs.Reports.{error_report as tray_report}
use Rattle.export_bounds.specs.Coded.{coded, coded_fault, Fits}
use Rattle.export_bounds.proofs.Theorems.{coded_decodes}
use Rattle.std.specs.Prelude.{Result, Ok, Err, IfOk}
use Rattle.std.specs.Result.{result_unwrap_or}

-- ---- the number of no error is 0

list_refuses : (e : ListError) → eqb (listed_report (Err e)).number 0 ≡ false
list_refuses (listed.Card f) = fault_refuses f
list_refuses (listed.Short _) = refl

body_refuses : (e : BodyError) → eqb (body_report e).number 0 ≡ false
body_refuses (body.Record f) = bad_refuses f
body_refuses body.NoDisk = refl
body_refuses body.Lost = refl

tray_refuses : (e : TrayError) → eqb (tray_report e).number 0 ≡ false
tray_refuses (tray.Card f) = fault_refuses f
tray_refuses tray.StripLength = refl
tray_refuses tray.StripeCount = refl
tray_refuses tray.OutsideSet = refl
tray_refuses tray.TrayLength = refl

-- ---- one array, by what the call answers

module _ {A : Type 0} (r : Report) where
  pub taken : (x new old : A) (values : List ℕ) → accepted values ≡ r → x ≡ new → x ≡ unless_refused r new old
  taken x new old values e is = is ∙ sym (unless_accepted r values new old (sym e))

  kept : (new old : A) (q : Report) → eqb q.number 0 ≡ false → q ≡ r → old ≡ unless_refused r new old
  kept new old q refuses e = unless_other r new old (ap (λ (x : Report). eqb x.number 0) (sym e) ∙ refuses)

  pub list_kept : (new old : A) (e : ListError) → listed_report (Err e) ≡ r → old ≡ unless_refused r new old
  list_kept new old e = kept new old (listed_report (Err e)) (list_refuses e)

  pub tray_kept : (new old : A) (e : TrayError) → tray_report e ≡ r → old ≡ unless_refused r new old
  tray_kept new old e = kept new old (tray_report e) (tray_refuses e)

  -- the readers say it the other way round
  pub read_taken : (x new old : A) (values : List ℕ) → r ≡ accepted values → x ≡ new → x ≡ unless_refused r new old
  read_taken x new old values e = taken x new old values (sym e)

  pub card_kept : (new old : A) (f : CardFault) → r ≡ fault_report f → old ≡ unless_refused r new old
  card_kept new old f e = kept new old (fault_report f) (fault_refuses f) (sym e)

  pub record_kept : (new old : A) (f : RecordFault) → r ≡ record_fault_report f → old ≡ unless_refused r new old
  record_kept new old f e = kept new old (record_fault_report f) (bad_refuses f) (sym e)

-- ---- the body call: its array by the low 8 bits of the one number

module _ (r : Report) (fits : Fits r) (code : ℕ) (e : code ≡ coded r) where
  number : code % 256 ≡ r.number
  number = ap (λ (n : ℕ). n % 256) e ∙ (coded_decodes r fits.number_fits).0

  -- low bits that are not 0 refuse
  pub refused_kept : {A : Type 0} (new old : A) → (code % 256 ≡ 0 → ⊥) → old ≡ unless_refused r new old
  refused_kept new old h = unless_other r new old (ne_eqb r.number 0 (λ z. h (number ∙ z)))

  -- where they are 0 there is a place, and it is the one that is named
  module _ (x y : ℕ) (old : List ℕ) (zero : code % 256 ≡ 0) where
    there_taken : (a : Result BodyPlace BodyError) → body_answer (there a) ≡ r → IfOk a (λ p. (p.at ≡ x) × (p.len ≡ y))
        → let p = result_unwrap_or a (record { at = 0; len = 0 }) in p.at ∷ p.len ∷ [] ≡ unless_refused r (x ∷ y ∷ []) old
    there_taken (Ok p) is h = taken r _ _ old _ is (ap₂ (λ (at len : ℕ). at ∷ len ∷ []) h.0 h.1)
    there_taken (Err f) is _ =
        absurd (eqb-false (body_report f).number 0 (body_refuses f) (ap (λ (q : Report). q.number) is ∙ sym number ∙ zero))

    pub place_taken : (a : Result BodyPlace BodyError) (place : BodyPlace) → place ≡ result_unwrap_or a (record { at = 0; len = 0 })
        → body_answer (there a) ≡ r → IfOk a (λ p. (p.at ≡ x) × (p.len ≡ y)) → place.at ∷ place.len ∷ [] ≡ unless_refused r (x ∷ y ∷ []) old
    place_taken a place is told h =
        subst (λ (p : BodyPlace). p.at ∷ p.len ∷ [] ≡ unless_refused r (x ∷ y ∷ []) old) (sym is) (there_taken a told h)

-- ---- the two readers: what they name goes into arrays, and the one number is 0 or the fault's

module _ (r : Report) where
  pub no_code : (values : List ℕ) → r ≡ accepted values → 0 ≡ coded_fault r
  unfolding coded_fault
  no_code values e = sym (unless_accepted r values 0 (coded r) e)

  pub values_taken : (values old : List ℕ) → r ≡ accepted values → values ≡ unless_refused r r.values old
  values_taken values old e = taken r values r.values old values (sym e) (ap (λ (x : Report). x.values) (sym e))

  fault_code : (code : ℕ) (q : Report) → eqb q.number 0 ≡ false → r ≡ q → code ≡ coded q → code ≡ coded_fault r
  unfolding coded_fault
  fault_code code q refuses e is = is ∙ ap coded (sym e) ∙ kept r 0 (coded r) q refuses (sym e)

  pub card_code : (code : ℕ) (f : CardFault) → r ≡ fault_report f → code ≡ coded (fault_report f) → code ≡ coded_fault r
  card_code code f = fault_code code (fault_report f) (fault_refuses f)

  pub record_code : (code : ℕ) (f : RecordFault) → r ≡ record_fault_report f → code ≡ coded (record_fault_report f) → code ≡ coded_fault r
  record_code code f = fault_code code (record_fault_report f) (bad_refuses f)
