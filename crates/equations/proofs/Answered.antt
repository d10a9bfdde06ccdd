-- The equation call's answer and slice for a card, by what the check found.
-- Assumes nothing.
use mathlib.Core.Path.{◌≡◌, sym, ap, ap₂, ◌∙◌}
use mathlib.Core.Bool.{Bool, not}
use mathlib.Core.List.{List, []}
use Prim.Native.Nat.{ℕ, ◌≤◌, ◌<◌}
use borrow.Author.Tests.{lt-ltb, le-ltb}
use lib.ListN.{length}
use Rattle.std.specs.Prelude.{Ok, Err, if◌then◌else◌}
use Rattle.flat.specs.declared.Edition.{Edition}
use Rattle.flat.specs.Cards.{Code, card_of, code_of, disks}
use Rattle.flat.specs.Equations.{equations}
use Rattle.flat.specs.Faults.{Report, refused, unless_refused, card_report, list_report, list_slice, equations_tests, equations_report, equations_slice}
use Rattle.flat.proofs.Reports.{unless_refused_lem}
use Rattle.card.specs.declared.CardFault.{CardFault}
use Rattle.card.specs.Reports.{fault_report, report as check_report}
use Rattle.card.proofs.Laws.{unless_fault}
use Rattle.card.proofs.Callers.{good_with, bad_card}

module _ (e : Edition) (bs : List ℕ) (d : ℕ) (slice : List ℕ) where
  abbrev whole : Report
  whole = equations_report (card_of e bs) d (length slice)

  module _ (f : CardFault) (value : check_report (Err f) ≡ card_report (card_of e bs)) where
    pub bad_report : fault_report f ≡ equations_report (card_of e bs) d (length slice)
    unfolding equations_report
    bad_report = bad_card e bs (λ C. equations_tests C d (length slice)) f value

    pub bad_slice : slice ≡ equations_slice (card_of e bs) d slice
    unfolding equations_slice
    bad_slice = sym (unless_fault f whole (list_slice (equations (code_of (card_of e bs)) d) slice) slice bad_report)

  module _ (C : Code) (value : check_report (Ok C) ≡ card_report (card_of e bs)) (is : C ≡ code_of (card_of e bs)) where
    tested : (r : Report) → r ≡ equations_tests C d (length slice) → r ≡ whole
    unfolding equations_report
    tested r h = good_with e bs (λ D. equations_tests D d (length slice)) C r value is h

    -- a disk that the code lacks
    module _ (past : disks C ≤ d) where
      pub outside-report : refused 9 [] ≡ equations_report (card_of e bs) d (length slice)
      unfolding equations_tests
      outside-report =
          tested (refused 9 []) (sym (ap (λ (b : Bool). if not b then refused 9 [] else list_report (equations C d) (length slice)) (le-ltb d (disks C) past)))

      pub outside_slice : slice ≡ equations_slice (card_of e bs) d slice
      unfolding equations_slice
      outside_slice = sym (unless_refused_lem whole 8 [] (list_slice (equations (code_of (card_of e bs)) d) slice) slice (sym outside-report))

    pub good_report : d < disks C → (r : Report) → r ≡ list_report (equations C d) (length slice) → r ≡ equations_report (card_of e bs) d (length slice)
    unfolding equations_tests
    good_report l r h =
        tested r (h ∙ sym (ap (λ (b : Bool). if not b then refused 9 [] else list_report (equations C d) (length slice)) (lt-ltb d (disks C) l)))

    pub good_slice : (r : Report) → r ≡ equations_report (card_of e bs) d (length slice)
        → unless_refused r (list_slice (equations C d) slice) slice ≡ equations_slice (card_of e bs) d slice
    unfolding equations_slice
    good_slice r h = ap₂ (λ (x : Report) (D : Code). unless_refused x (list_slice (equations D d) slice) slice) h is
