-- What the turned rebuild answers by its tests, and what it answers and leaves in the stripe for a good card and for a bad one.
-- Assumes nothing.
use mathlib.Core.Path.{◌≡◌, sym, ap, ◌∙◌}
use mathlib.Core.Logic.{◌≢◌, ⊎_elim}
use mathlib.Core.List.{List}
use Prim.Native.Nat.{ℕ}
use lib.Dec.{eqb}
use lib.ListN.{length}
use Rattle.gf2.proofs.Tests.{dec, eqb_in, eqb_out}
use Rattle.std.specs.Prelude.{Ok, Err}
use Rattle.flat.specs.declared.Edition.{Edition}
use Rattle.flat.specs.Cards.{Code, Card, card_of, disks, code_of}
use Rattle.flat.specs.Rebuilding.{agreeing, restored}
use Rattle.flat.specs.Faults.{Report, unless_refused, card_report, stripe_tests, disks_report}
use Rattle.flat.proofs.Reports.{unless_number, unless_not}
use Rattle.card.specs.declared.CardFault.{CardFault}
use Rattle.card.specs.Reports.{fault_report, report as check_report}
use Rattle.card.proofs.Laws.{unless_fault}
use Rattle.card.proofs.Callers.{good_with, bad_card}
use Rattle.turning.specs.Turning.{turned, turned_back, disks_of}
use Rattle.turning.specs.Faults.{turned_tests, turned_report, turned_stripe}
use Rattle.turning.proofs.Calls.{turned-restored}

-- what is restored and turned, for a code
abbrev pub turned_of : Code → ℕ → ℕ → ℕ → List ℕ → List ℕ
turned_of C L r S stripe =
    let n = disks C in
    let D = disks_of n r S in
    let back = turned_back n L r stripe in
    turned n L r (restored C L D back (agreeing C L D back))

-- the tests come first
pub tests_report : (C : Code) (L r S : ℕ) (stripe : List ℕ) (a : Report)
    → a ≡ stripe_tests C L S (length stripe) (disks_report C L (disks_of (disks C) r S) (turned_back (disks C) L r stripe))
    → a ≡ turned_tests C L r S stripe
unfolding turned_tests
tests_report C L r S stripe a e = e

module _ (edition : Edition) (bs : List ℕ) (L r S : ℕ) (stripe : List ℕ) where
  abbrev card : Card
  card = card_of edition bs

  module _ (C : Code) (value : check_report (Ok C) ≡ card_report card) (is : C ≡ code_of card) where
    pub good_report : (a : Report) → a ≡ turned_tests C L r S stripe → a ≡ turned_report card L r S stripe
    unfolding turned_report
    good_report a e = good_with edition bs (λ D. turned_tests D L r S stripe) C a value is e

    pub good_stripe : (a : Report) → a ≡ turned_report card L r S stripe
        → unless_refused a (turned_of C L r S stripe) stripe ≡ turned_stripe card L r S stripe
    unfolding turned_stripe
    good_stripe a e =
        ap (λ (D : Code). unless_refused a (turned_of D L r S stripe) stripe) is
        ∙ ap (λ (x : Report). unless_refused x (turned_of (code_of card) L r S stripe) stripe) e
        ∙ ⊎_elim (λ t. let z = eqb_out (turned_report card L r S stripe).number 0 t in
        unless_number (turned_report card L r S stripe) (turned_of (code_of card) L r S stripe) stripe z
        ∙ ap (turned (disks (code_of card)) L r) (sym (turned-restored card L r S stripe z))
        ∙ sym (unless_number (turned_report card L r S stripe) _ stripe z))
        (λ f. let z : (turned_report card L r S stripe).number ≢ 0 = λ q. f (eqb_in q) in
        unless_not (turned_report card L r S stripe) (turned_of (code_of card) L r S stripe) stripe z ∙ sym (unless_not (turned_report card L r S stripe) _ stripe z))
        (dec (eqb (turned_report card L r S stripe).number 0))

  module _ (f : CardFault) (e : check_report (Err f) ≡ card_report card) where
    pub bad_report : fault_report f ≡ turned_report card L r S stripe
    unfolding turned_report
    bad_report = bad_card edition bs (λ C. turned_tests C L r S stripe) f e

    pub bad_stripe : stripe ≡ turned_stripe card L r S stripe
    unfolding turned_stripe
    bad_stripe = sym (unless_fault f (turned_report card L r S stripe) _ stripe bad_report)
