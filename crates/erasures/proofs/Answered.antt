-- The lister's answer, vector and slice for a card, by what the check found.
-- Assumes nothing.
use mathlib.Core.Path.{◌≡◌, sym, ap, ap₂, ◌∙◌}
use mathlib.Core.List.{List, [], ◌∷◌}
use Prim.Native.Nat.{ℕ}
use lib.ListN.{length}
use Rattle.std.specs.Prelude.{Result, Ok, Err, IfOk}
use Rattle.flat.specs.declared.Edition.{Edition}
use Rattle.flat.specs.Lists.{padded}
use Rattle.flat.specs.Cards.{Code, card_of, code_of}
use Rattle.flat.specs.Erasures.{erasures, vector}
use Rattle.flat.specs.Faults.{Report, unless_refused, card_report, list_report, list_slice, erasures_report, erasures_vector, erasures_slice}
use Rattle.flat.proofs.Reports.{unless_accepted}
use Rattle.card.specs.declared.CardFault.{CardFault}
use Rattle.card.specs.Reports.{fault_report, report as check_report}
use Rattle.card.proofs.Laws.{unless_fault}
use Rattle.card.proofs.Callers.{good_with, bad_card}
use Rattle.erasures.specs.declared.Listing.{Listing}
use Rattle.erasures.specs.declared.ListError.{ListError}
use Rattle.erasures.specs.Reports.{report, counted}

module _ (e : Edition) (bs slice : List ℕ) where
  module _ (f : CardFault) (value : check_report (Err f) ≡ card_report (card_of e bs)) where
    pub bad_report : fault_report f ≡ erasures_report (card_of e bs) (length slice)
    unfolding erasures_report
    bad_report = bad_card e bs (λ C. list_report (erasures C) (length slice)) f value

    pub bad_slice : slice ≡ erasures_slice (card_of e bs) slice
    unfolding erasures_slice
    bad_slice = sym (unless_fault f (erasures_report (card_of e bs) (length slice)) (list_slice (erasures (code_of (card_of e bs))) slice) slice bad_report)

  module _ (C : Code) (is : C ≡ code_of (card_of e bs)) where
    pub good_report : (r : Report) → check_report (Ok C) ≡ card_report (card_of e bs) → r ≡ list_report (erasures C) (length slice)
        → r ≡ erasures_report (card_of e bs) (length slice)
    unfolding erasures_report
    good_report r value h = good_with e bs (λ D. list_report (erasures D) (length slice)) C r value is h

    pub good_vector : (answer : Result Listing ListError) → report (counted answer) ≡ erasures_report (card_of e bs) (length slice)
        → IfOk answer (λ listing. listing.vector ≡ padded 17 (vector C))
        → IfOk answer (λ listing. listing.vector ≡ erasures_vector (card_of e bs) (length slice))
    unfolding erasures_vector
    good_vector (Ok listing) h v =
        v ∙ ap (λ (D : Code). padded 17 (vector D)) is
        ∙ sym
        (ap (padded 17) (unless_accepted (erasures_report (card_of e bs) (length slice)) (listing.count ∷ []) (vector (code_of (card_of e bs))) [] (sym h)))
    good_vector (Err _) h v = tt

    pub good_slice : (r : Report) → r ≡ erasures_report (card_of e bs) (length slice)
        → unless_refused r (list_slice (erasures C) slice) slice ≡ erasures_slice (card_of e bs) slice
    unfolding erasures_slice
    good_slice r h = ap₂ (λ (x : Report) (D : Code). unless_refused x (list_slice (erasures D) slice) slice) h is
