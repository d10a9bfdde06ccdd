-- What the rebuilder answers by its tests, and what it answers and leaves in the stripe for a good card and for a bad one.
-- Assumes nothing.
use mathlib.Core.Path.{◌≡◌, refl, sym, ap, ◌∙◌}
use mathlib.Core.List.{List}
use Prim.Native.Nat.{ℕ}
use lib.ListN.{length}
use Rattle.std.specs.Prelude.{Ok, Err}
use Rattle.flat.specs.declared.Edition.{Edition}
use Rattle.flat.specs.Cards.{Code, card_of, code_of}
use Rattle.flat.specs.Rebuilding.{agreeing, restored}
use Rattle.flat.specs.Faults.{Report, unless_refused, card_report, stripe_tests, disks_report, rebuild_tests, rebuild_report, rebuild_stripe}
use Rattle.card.specs.declared.CardFault.{CardFault}
use Rattle.card.specs.Reports.{fault_report, report as check_report}
use Rattle.card.proofs.Laws.{unless_fault}
use Rattle.card.proofs.Callers.{good_with, bad_card}
use Rattle.restorer.specs.declared.StripeFault.{StripeFault}
use Rattle.restorer.specs.declared.StripeFault.TheVariants.{StripLength, OutsideSet, StripeLength}
use Rattle.restorer.specs.Reports.{fault_report as stripe_fault_report}

-- the tests come first
pub tests_report : (C : Code) (L S : ℕ) (stripe : List ℕ) (r : Report)
    → r ≡ stripe_tests C L S (length stripe) (disks_report C L S stripe) → r ≡ rebuild_tests C L S stripe
unfolding rebuild_tests
tests_report C L S stripe r e = e

-- and where they refuse, what was there stays
module _ {A : Type 0} where
  pub stripe_kept : (f : StripeFault) (new old : A) → old ≡ unless_refused (stripe_fault_report f) new old
  unfolding unless_refused
  stripe_kept StripLength new old = refl
  stripe_kept OutsideSet new old = refl
  stripe_kept StripeLength new old = refl

module _ (e : Edition) (bs : List ℕ) (L S : ℕ) (stripe : List ℕ) where
  pub good_report : (C : Code) (r : Report) → check_report (Ok C) ≡ card_report (card_of e bs) → C ≡ code_of (card_of e bs) → r ≡ rebuild_tests C L S stripe
      → r ≡ rebuild_report (card_of e bs) L S stripe
  unfolding rebuild_report
  good_report C r value is h = good_with e bs (λ D. rebuild_tests D L S stripe) C r value is h

  pub good_stripe : (C : Code) (r : Report) → C ≡ code_of (card_of e bs) → r ≡ rebuild_report (card_of e bs) L S stripe
      → unless_refused r (restored C L S stripe (agreeing C L S stripe)) stripe ≡ rebuild_stripe (card_of e bs) L S stripe
  unfolding rebuild_stripe
  good_stripe C r is h =
      ap (λ (D : Code). unless_refused r (restored D L S stripe (agreeing D L S stripe)) stripe) is
      ∙ ap (λ (x : Report). unless_refused x (restored (code_of (card_of e bs)) L S stripe (agreeing (code_of (card_of e bs)) L S stripe)) stripe) h

  pub bad_report : (f : CardFault) → check_report (Err f) ≡ card_report (card_of e bs) → fault_report f ≡ rebuild_report (card_of e bs) L S stripe
  unfolding rebuild_report
  bad_report f value = bad_card e bs (λ C. rebuild_tests C L S stripe) f value

  pub bad_stripe : (f : CardFault) → check_report (Err f) ≡ card_report (card_of e bs) → stripe ≡ rebuild_stripe (card_of e bs) L S stripe
  unfolding rebuild_stripe
  bad_stripe f value = sym (unless_fault f (rebuild_report (card_of e bs) L S stripe) _ stripe (bad_report f value))
