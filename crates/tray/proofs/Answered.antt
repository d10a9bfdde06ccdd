-- What quick repair answers and leaves in the tray, by what the card check and the tests found.
-- Assumes nothing.
use mathlib.Core.Path.{◌≡◌, refl, sym, ap, ◌∙◌}
use mathlib.Core.Bool.{Bool, false, ◌&&◌}
use mathlib.Core.List.{List, []}
use Prim.Native.Nat.{ℕ, zero, suc, ◌+◌, ◌^◌, ◌≤◌}
use native.Mathlib.Omega.{arith}
use lib.Dec.{eqb, ltb}
use lib.ListN.{length, get_or, take}
use lib.Seq.{take_all}
use Rattle.std.specs.Prelude.{Ok, Err}
use Rattle.std.specs.List.{list_all}
use Rattle.std.proofs.lemmas.List.Folds.{list_all_more}
use Rattle.flat.specs.declared.Edition.{Edition}
use Rattle.flat.specs.Lists.{every, padded}
use Rattle.flat.specs.Cards.{Code, Card, card_of, disks, set_ok, code_of}
use Rattle.flat.specs.Faults.{Report, accepted, card_report}
use Rattle.flat.proofs.Reports.{unless_accepted, unless_other}
use Rattle.card.specs.declared.CardFault.{CardFault}
use Rattle.card.specs.Reports.{report as check_report}
use Rattle.card.proofs.Laws.{fault_refuses}
use Rattle.card.proofs.Callers.{good_with, bad_card}
use Rattle.peeling.specs.Trays.{tray_peeled, lefts, joined}
use Rattle.peeling.specs.Faults.{sets_ok, tray_tests, tray_report, tray_lefts, tray_bytes}
use Rattle.tray.specs.declared.TrayError.{TrayError}
use Rattle.tray.specs.declared.TrayError.TheVariants as error
use Rattle.tray.specs.Reports.{error_report}

-- ---- the test of the sets

-- a test of all, by the places of the list
all_first : (p : ℕ → Bool) (xs : List ℕ) (n : ℕ) → n ≤ length xs → list_all p (take n xs) ≡ every n (λ i. p (get_or xs i 0))
unfolding every
all_first p xs zero h = refl
all_first p xs (suc n) h =
    ap (λ (k : ℕ). list_all p (take k xs)) (let z : suc n ≡ n + 1 = omega arith in z) ∙ list_all_more p xs n 0 h
    ∙ ap (λ (b : Bool). b && p (get_or xs n 0)) (all_first p xs n (omega arith))

pub sets_listed : (C : Code) (n : ℕ) (Ss : List ℕ) → n ≡ disks C → list_all (λ S. ltb S (2 ^ n)) Ss ≡ sets_ok C Ss
unfolding sets_ok set_ok
sets_listed C n Ss e =
    ap (λ (x : ℕ). list_all (λ S. ltb S (2 ^ x)) Ss) e ∙ ap (list_all (λ S. set_ok C S)) (sym (take_all (length Ss) Ss (omega arith)))
    ∙ all_first (λ S. set_ok C S) Ss (length Ss) (omega arith)

-- ---- what is left in the tray, and of its sets

-- an error's number is not 0
error_refuses : (e : TrayError) → eqb (error_report e).number 0 ≡ false
error_refuses (error.Card f) = fault_refuses f
error_refuses error.StripLength = refl
error_refuses error.StripeCount = refl
error_refuses error.OutsideSet = refl
error_refuses error.TrayLength = refl

module _ (L budget : ℕ) (Ss tray : List ℕ) where
  -- a call that answers an error leaves the tray
  kept : (card : Card) (e : TrayError) → error_report e ≡ tray_report card L budget Ss tray → tray ≡ tray_bytes card L budget Ss tray
  unfolding tray_bytes
  kept card e q =
      unless_other (tray_report card L budget Ss tray) (joined (tray_peeled (code_of card) L budget Ss tray)) tray
      (ap (λ (r : Report). eqb r.number 0) (sym q) ∙ error_refuses e)

  module _ (e : Edition) (bs : List ℕ) where
    abbrev tests : Code → Report
    tests C = tray_tests C L budget Ss tray

    pub kept_bad_card : (f : CardFault) → check_report (Err f) ≡ card_report (card_of e bs) → tray ≡ tray_bytes (card_of e bs) L budget Ss tray
    unfolding tray_report
    kept_bad_card f value = kept (card_of e bs) (error.Card f) (bad_card e bs tests f value)

    module _ (C : Code) (value : check_report (Ok C) ≡ card_report (card_of e bs)) (is : C ≡ code_of (card_of e bs)) where
      told : (r : Report) → r ≡ tests C → r ≡ tray_report (card_of e bs) L budget Ss tray
      unfolding tray_report
      told r q = good_with e bs tests C r value is q

      pub kept_refused : (error : TrayError) → error_report error ≡ tests C → tray ≡ tray_bytes (card_of e bs) L budget Ss tray
      kept_refused error q = kept (card_of e bs) error (told (error_report error) q)

      module _ (values : List ℕ) (q : accepted values ≡ tests C) where
        pub now_left : (left : List ℕ) → left ≡ padded 8 (lefts (tray_peeled C L budget Ss tray)) → left ≡ tray_lefts (card_of e bs) L budget Ss tray
        unfolding tray_lefts
        now_left left turn =
            let report = told (accepted values) q in
            let peels = tray_peeled (code_of (card_of e bs)) L budget Ss tray in
            turn ∙ ap (λ (D : Code). padded 8 (lefts (tray_peeled D L budget Ss tray))) is
            ∙ ap (padded 8) (sym (unless_accepted (tray_report (card_of e bs) L budget Ss tray) values (lefts peels) [] (sym report)))

        pub now_joined : (new : List ℕ) → new ≡ joined (tray_peeled C L budget Ss tray) → new ≡ tray_bytes (card_of e bs) L budget Ss tray
        unfolding tray_bytes
        now_joined new turn =
            let report = told (accepted values) q in
            let peels = tray_peeled (code_of (card_of e bs)) L budget Ss tray in
            turn ∙ ap (λ (D : Code). joined (tray_peeled D L budget Ss tray)) is
            ∙ sym (unless_accepted (tray_report (card_of e bs) L budget Ss tray) values (joined peels) tray (sym report))
