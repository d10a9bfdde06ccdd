-- What the encoder leaves in the stripe, by what the card check and the tests found.
-- Assumes nothing.
use mathlib.Core.Path.{◌≡◌, refl, sym, ap, ◌∙◌}
use mathlib.Core.Bool.{false}
use mathlib.Core.List.{List, []}
use Prim.Native.Nat.{ℕ}
use lib.Dec.{eqb}
use lib.ListN.{length}
use Rattle.std.specs.Prelude.{Ok, Err}
use Rattle.flat.specs.declared.Edition.{Edition}
use Rattle.flat.specs.Cards.{Code, Card, card_of, code_of}
use Rattle.flat.specs.Strips.{encoded}
use Rattle.flat.specs.Faults.{Report, accepted, card_report, encode_tests, encode_report, encode_stripe}
use Rattle.flat.proofs.Reports.{unless_accepted, unless_other}
use Rattle.card.specs.declared.CardFault.{CardFault}
use Rattle.card.specs.Reports.{report as check_report}
use Rattle.card.proofs.Laws.{fault_refuses}
use Rattle.card.proofs.Callers.{good_with, bad_card}
use Rattle.encoder.specs.declared.EncodeError.{EncodeError}
use Rattle.encoder.specs.declared.EncodeError.TheVariants.{Card as CardError, StripLength, StripeLength}
use Rattle.encoder.specs.Reports.{error_report}

-- an error's number is not 0
error_refuses : (e : EncodeError) → eqb (error_report e).number 0 ≡ false
error_refuses (CardError f) = fault_refuses f
error_refuses StripLength = refl
error_refuses StripeLength = refl

-- a call that answers an error leaves the stripe
kept : (card : Card) (l : ℕ) (stripe : List ℕ) (e : EncodeError) → error_report e ≡ encode_report card l (length stripe)
    → stripe ≡ encode_stripe card l stripe
unfolding encode_stripe
kept card l stripe e q =
    unless_other (encode_report card l (length stripe)) (encoded (code_of card) l stripe) stripe (ap (λ (r : Report). eqb r.number 0) (sym q) ∙ error_refuses e)

module _ (e : Edition) (bs : List ℕ) (l : ℕ) (stripe : List ℕ) where
  pub kept_bad_card : (f : CardFault) → check_report (Err f) ≡ card_report (card_of e bs) → stripe ≡ encode_stripe (card_of e bs) l stripe
  unfolding encode_report
  kept_bad_card f value = kept (card_of e bs) l stripe (CardError f) (bad_card e bs (λ C. encode_tests C l (length stripe)) f value)

  module _ (C : Code) (value : check_report (Ok C) ≡ card_report (card_of e bs)) (is : C ≡ code_of (card_of e bs)) where
    pub kept_refused : (error : EncodeError) → error_report error ≡ encode_tests C l (length stripe) → stripe ≡ encode_stripe (card_of e bs) l stripe
    unfolding encode_report
    kept_refused error r = kept (card_of e bs) l stripe error (good_with e bs (λ C. encode_tests C l (length stripe)) C (error_report error) value is r)

    pub now_encoded : (new : List ℕ) → accepted [] ≡ encode_tests C l (length stripe) → new ≡ encoded C l stripe → new ≡ encode_stripe (card_of e bs) l stripe
    unfolding encode_report encode_stripe
    now_encoded new r turn =
        let n = length stripe in
        let report = good_with e bs (λ C. encode_tests C l n) C (accepted []) value is r in
        turn ∙ ap (λ (D : Code). encoded D l stripe) is
        ∙ sym (unless_accepted (encode_report (card_of e bs) l n) [] (encoded (code_of (card_of e bs)) l stripe) stripe (sym report))
