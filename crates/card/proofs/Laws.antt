-- The report of a code and of a card at each way out of the tests, and what a card's fault tells.
-- Assumes nothing.
use mathlib.Core.Path.{◌≡◌, refl, sym, ap, ◌∙◌}
use mathlib.Core.Bool.{Bool, true, false}
use mathlib.Core.List.{[], ◌∷◌}
use Prim.Native.Nat.{ℕ, ◌≤◌, ◌<◌}
use native.Mathlib.Omega.{arith}
use borrow.Author.Tests.{lt-ltb}
use lib.Dec.{eqb}
use lib.ListN.{get_or}
use Rattle.std.specs.Prelude.{if◌then◌else◌}
use Rattle.flat.specs.Cards.{Code, count_ok, first_bad}
use Rattle.flat.specs.Faults.{Report, refused, unless_refused, code_report}
use Rattle.flat.proofs.Reports.{unless_other}
use Rattle.flat.proofs.Cards.{sound-report}
use Rattle.card.specs.declared.CardFault.{CardFault}
use Rattle.card.specs.declared.CardFault.TheVariants.{Short, FirstByte, DataCount, ParityCount, Length, Column, ZeroWear}
use Rattle.card.specs.Reports.{fault_report}

-- ---- the report of a code at each way out

module _ (C : Code) (sized : Bool) (next : Report) where
  pub code_data : count_ok C.k ≡ false → refused 2 [] ≡ code_report C sized next
  unfolding code_report
  code_data e = simp e

  module _ (ek : count_ok C.k ≡ true) where
    pub code-parity : count_ok C.m ≡ false → refused 3 [] ≡ code_report C sized next
    unfolding code_report
    code-parity e = simp (ek, e)

    module _ (em : count_ok C.m ≡ true) where
      pub code-length : sized ≡ false → refused 4 [] ≡ code_report C sized next
      unfolding code_report
      code-length e = simp (ek, em, e)

      module _ (es : sized ≡ true) where
        pub code-column : (j : ℕ) → j ≡ first_bad C.k C.columns → j < C.m → refused 5 (j ∷ []) ≡ code_report C sized next
        unfolding code_report
        code-column j e h = simp (ek, em, es, sym e, lt-ltb _ _ h)

        pub code_good : (j : ℕ) → j ≡ first_bad C.k C.columns → C.m ≤ j → next ≡ code_report C sized next
        code_good j e h =
            sym (ap (λ (b : Bool). code_report C b next) es ∙ sound-report C next (record { k_ok = ek; m_ok = em; first = omega arith }))

-- ---- faults

-- the fault that a report comes from
abbrev pub fault_of : Report → CardFault
fault_of r =
    if eqb r.number 1 then Short else
    if eqb r.number 2 then DataCount else
    if eqb r.number 3 then ParityCount else
    if eqb r.number 4 then Length else
    if eqb r.number 22 then FirstByte else
    if eqb r.number 23 then ZeroWear else
    Column (get_or r.values 0 0)

-- a fault's number is not 0, and its report tells the fault. No other proof takes the faults apart.
fault-told : (f : CardFault) → (eqb (fault_report f).number 0 ≡ false) × (fault_of (fault_report f) ≡ f)
fault-told Short = (refl, refl)
fault-told FirstByte = (refl, refl)
fault-told DataCount = (refl, refl)
fault-told ParityCount = (refl, refl)
fault-told Length = (refl, refl)
fault-told (Column j) = (refl, refl)
fault-told ZeroWear = (refl, refl)

pub fault_refuses : (f : CardFault) → eqb (fault_report f).number 0 ≡ false
fault_refuses f = (fault-told f).0

pub fault-back : (f : CardFault) → fault_of (fault_report f) ≡ f
fault-back f = (fault-told f).1

-- a report that is a fault's refuses
module _ {A : Type 0} where
  pub unless_fault : (f : CardFault) (r : Report) (new old : A) → fault_report f ≡ r → unless_refused r new old ≡ old
  unless_fault f r new old e = sym (unless_other r new old (ap (λ (x : Report). eqb x.number 0) (sym e) ∙ fault_refuses f))
