-- A report tells the answer that gave it: a fault is computed back from its report, and counts stand in it.
-- Assumes nothing.
use mathlib.Core.Path.{◌≡◌, refl, sym, ap, ◌∙◌, subst}
use mathlib.Core.Bool.{Bool}
use borrow.Author.Tests.{eq-eqb}
use lib.Dec.{T, eqb}
use lib.ListN.{get_or}
use Rattle.std.specs.Prelude.{if◌then◌else◌, Result, Ok, Err}
use Rattle.flat.specs.Cards.{Code}
use Rattle.flat.specs.Faults.{Report}
use Rattle.card.specs.declared.Counts.{Counts}
use Rattle.card.specs.declared.CardFault.{CardFault}
use Rattle.card.specs.Reports.{fault_report, counts_report}
use Rattle.card.specs.Theorems.{FaultInjective, CheckInjective, CheckFixed, CountsInjective}
use Rattle.card.proofs.Laws.{fault_of, fault-back, fault_refuses}

-- an answer that carries a card's fault, where the number is that of a fault, else another
module _ {A : Type 0} where
  abbrev pub carried : Report → (CardFault → A) → A → A
  carried r answer other = if eqb (fault_report (fault_of r)).number r.number then answer (fault_of r) else other

  pub carried-back : (f : CardFault) (answer : CardFault → A) (other : A) → carried (fault_report f) answer other ≡ answer f
  carried-back f answer other = let n = (fault_report f).number in rw (fault-back f, eq-eqb n n refl)

pub fault_injective : FaultInjective
fault_injective a b e = sym (fault-back a) ∙ ap fault_of e ∙ fault-back b

-- an accepted report is no fault's
no_fault : (f : CardFault) (r : Report) → fault_report f ≡ r → r.number ≡ 0 → ⊥
no_fault f r e z = subst (λ (b : Bool). T b → ⊥) (sym (fault_refuses f)) (λ h. h) (let n : (fault_report f).number ≡ 0 = ap (λ (x : Report). x.number) e ∙ z in rw n tt)

pub check_injective : CheckInjective
check_injective (Ok A) (Ok B) e = (ap (λ (x : Report). get_or x.values 0 0) e, ap (λ (x : Report). get_or x.values 1 0) e)
check_injective (Ok A) (Err f) e = no_fault f _ (sym e) refl
check_injective (Err f) (Ok B) e = absurd (no_fault f _ e refl)
check_injective (Err f) (Err g) e = ap Err (fault_injective g f (sym e))

pub check_fixed : CheckFixed
check_fixed C (Ok A) (Ok B) e f g = ap (λ (D : Code). Ok D) (f ∙ sym g)
check_fixed C (Ok A) (Err f) e _ _ = absurd (no_fault f _ (sym e) refl)
check_fixed C (Err f) (Ok B) e _ _ = absurd (no_fault f _ e refl)
check_fixed C (Err f) (Err g) e _ _ = ap Err (fault_injective f g e)

abbrev counts_from : Report → Result Counts CardFault
counts_from r = carried r (λ f. Err f) (Ok (record { k = get_or r.values 0 0; m = get_or r.values 1 0 }))

counts_back : (a : Result Counts CardFault) → counts_from (counts_report a) ≡ a
counts_back (Ok counts) = refl
counts_back (Err f) = carried-back f (λ g. Err g) _

pub counts_injective : CountsInjective
counts_injective a b e = sym (counts_back a) ∙ ap counts_from e ∙ counts_back b
