-- What the update leaves in the stripe, by what the card check and the tests found.
-- Assumes nothing.
use mathlib.Core.Path.{◌≡◌, refl, sym, ap, ap₂, ◌∙◌}
use mathlib.Core.Bool.{false}
use mathlib.Core.List.{List}
use Prim.Native.Nat.{ℕ}
use lib.Dec.{eqb}
use lib.ListN.{length}
use Rattle.std.specs.Prelude.{Ok, Err}
use Rattle.flat.specs.declared.Edition.{Edition}
use Rattle.flat.specs.Cards.{Code, Card, card_of, code_of}
use Rattle.flat.specs.Faults.{Report, accepted, card_report}
use Rattle.flat.proofs.Reports.{unless_accepted, unless_other}
use Rattle.card.specs.declared.CardFault.{CardFault}
use Rattle.card.specs.Reports.{report as check_report}
use Rattle.card.proofs.Laws.{fault_refuses}
use Rattle.card.proofs.Callers.{good_with, bad_card}
use Rattle.updating.specs.Updating.{updated}
use Rattle.updating.specs.Faults.{update_tests, update_report, update_stripe}
use Rattle.updater.specs.declared.UpdateError.{UpdateError}
use Rattle.updater.specs.declared.UpdateError.TheVariants as error
use Rattle.updater.specs.Reports.{error_report}

-- an error's number is not 0
error_refuses : (e : UpdateError) → eqb (error_report e).number 0 ≡ false
error_refuses (error.Card f) = fault_refuses f
error_refuses error.StripLength = refl
error_refuses error.NoDisk = refl
error_refuses error.ParityDisk = refl
error_refuses error.StripeLength = refl
error_refuses error.NewLength = refl

module _ (l : ℕ) (stripe : List ℕ) (d : ℕ) (new : List ℕ) where
  -- a call that answers an error leaves the stripe
  kept : (card : Card) (e : UpdateError) → error_report e ≡ update_report card l (length stripe) d (length new) → stripe ≡ update_stripe card l stripe d new
  unfolding update_stripe
  kept card e q =
      unless_other (update_report card l (length stripe) d (length new)) (updated (code_of card) l d new stripe) stripe
      (ap (λ (r : Report). eqb r.number 0) (sym q) ∙ error_refuses e)

  module _ (e : Edition) (bs : List ℕ) where
    abbrev answer : Code → Report
    answer C = update_tests C l (length stripe) d (length new)

    pub kept_bad_card : (f : CardFault) → check_report (Err f) ≡ card_report (card_of e bs) → stripe ≡ update_stripe (card_of e bs) l stripe d new
    unfolding update_report
    kept_bad_card f value = kept (card_of e bs) (error.Card f) (bad_card e bs answer f value)

    module _ (C : Code) (value : check_report (Ok C) ≡ card_report (card_of e bs)) (is : C ≡ code_of (card_of e bs)) where
      pub kept_refused : (error : UpdateError) → error_report error ≡ answer C → stripe ≡ update_stripe (card_of e bs) l stripe d new
      unfolding update_report
      kept_refused error r = kept (card_of e bs) error (good_with e bs answer C (error_report error) value is r)

      pub now_updated : (values after : List ℕ) → accepted values ≡ answer C → length new ≡ l → after ≡ updated C (length new) d new stripe
          → after ≡ update_stripe (card_of e bs) l stripe d new
      unfolding update_report update_stripe
      now_updated values after r long turn =
          let report = good_with e bs answer C (accepted values) value is r in
          turn ∙ ap₂ (λ (D : Code) (n : ℕ). updated D n d new stripe) is long
          ∙ sym (unless_accepted (update_report (card_of e bs) l (length stripe) d (length new)) values (updated (code_of (card_of e bs)) l d new stripe) stripe (sym report))
