-- The text that is printed, by the lister's answer.
-- Assumes nothing.
use mathlib.Core.Path.{◌≡◌, sym, ap, ap₂, ◌∙◌}
use mathlib.Core.List.{List, [], ◌∷◌}
use Prim.Native.Nat.{ℕ, ◌+◌, ◌≤◌}
use native.Mathlib.Omega.{arith}
use lib.ListN.{length, take, drop, length-append}
use lib.Pow.{pow_mono}
use Rattle.std.specs.Prelude.{Ok}
use Rattle.flat.specs.declared.Edition.TheVariants.{First}
use Rattle.flat.specs.Lists.{padded}
use Rattle.flat.specs.Cards.{Code, code_of, edition_one}
use Rattle.flat.specs.Erasures.{erasures, vector}
use Rattle.flat.specs.Faults.{Report, accepted, refused, card_report, list_report, list_slice, erasures_report, erasures_vector, erasures_slice}
use Rattle.flat.proofs.Lists.{take-padded}
use Rattle.flat.proofs.Reports.{unless_accepted, unless_refused_lem, with_accepted, list_counted}
use Rattle.flat.proofs.Vector.{vector-length}
use Rattle.flat.proofs.Verdicts.{erasures-written}
use Rattle.card.specs.declared.CardFault.{CardFault}
use Rattle.card.specs.Reports.{fault_report, report as check_report}
use Rattle.card.proofs.Laws.{unless_fault}
use Rattle.card.proofs.Callers.{GoodCard, good}
use Rattle.export_bounds.proofs.ListLengths.{erasures-few}
use Rattle.text.specs.Text.{listing_text, refused_text}
use Rattle.render.specs.Printed.{printed}

abbrev text_of : Code → List ℕ
text_of C = listing_text C.k C.m (erasures C) (vector C)

pub printed_fault : (card : List ℕ) (n : ℕ) (f : CardFault) → fault_report f ≡ erasures_report (edition_one card) n → printed card n ≡ refused_text (fault_report f).number
unfolding printed
printed_fault card n f e =
    let C = code_of (edition_one card) in
    unless_fault f (erasures_report (edition_one card) n) (listing_text C.k C.m (erasures C) (vector C)) (refused_text (erasures_report (edition_one card) n).number) e
    ∙ ap (λ (r : Report). refused_text r.number) (sym e)

pub printed_short : (card : List ℕ) (n count : ℕ) → refused 10 (count ∷ []) ≡ erasures_report (edition_one card) n → printed card n ≡ refused_text 10
unfolding printed
printed_short card n count e =
    let C = code_of (edition_one card) in
    unless_refused_lem (erasures_report (edition_one card) n) 9 (count ∷ []) (listing_text C.k C.m (erasures C) (vector C)) (refused_text (erasures_report (edition_one card) n).number) (sym e)
    ∙ ap (λ (r : Report). refused_text r.number) (sym e)

-- a card that the check found good, and whose list was written into a slice
module _ (card : List ℕ) (C : Code) (ok : check_report (Ok C) ≡ card_report (edition_one card)) (is : C ≡ code_of (edition_one card)) where
  known : GoodCard (edition_one card) C
  known = good First card C ok is

  pub counts : (1 ≤ C.k) × (C.k ≤ 16) × (C.m ≤ 16)
  counts = let a = known.columns in (a.0, a.1, a.3)

  module _ (slice : List ℕ) (count : ℕ) (e : accepted (count ∷ []) ≡ erasures_report (edition_one card) (length slice)) where
    counted : (length (erasures C) ≡ count) × (count ≤ length slice)
    unfolding erasures_report
    counted =
        list_counted (erasures C) (length slice) count
        (sym (e ∙ with_accepted (edition_one card) (C.k ∷ C.m ∷ []) (λ D. list_report (erasures D) (length slice)) (sym ok)
        ∙ ap (λ (D : Code). list_report (erasures D) (length slice)) (sym is)))

    -- no list is longer than the text can be
    pub few : count ≤ 65536
    few =
        let a = erasures-few C in
        omega (arith, counts, counted, pow_mono {i = C.k} {j = 16} (omega (arith, counts)))

    -- the entries are a part of the slice at exit
    module _ (l : List ℕ) (q : l ≡ erasures_slice (edition_one card) slice) where
      pub room : count ≤ length l
      unfolding erasures_slice list_slice
      room =
          let w = unless_accepted (erasures_report (edition_one card) (length slice)) (count ∷ []) (list_slice (erasures (code_of (edition_one card))) slice) slice (sym e) in
          omega (arith, ap length (q ∙ w), ap (λ (D : Code). length (erasures D)) is, counted.0, length-append (erasures (code_of (edition_one card))) (drop (length (erasures (code_of (edition_one card)))) slice))

      entries_are : take count l ≡ erasures C
      entries_are =
          ap (take count) q ∙ erasures-written (edition_one card) C.k C.m (sym ok) slice count (sym e) ∙ ap erasures (sym is)

      module _ (v : List ℕ) (r : v ≡ erasures_vector (edition_one card) (length slice)) where
        vector_is : take (C.m + 1) v ≡ vector C
        unfolding erasures_vector
        vector_is =
            ap (take (C.m + 1)) (r ∙ ap (padded 17) (unless_accepted (erasures_report (edition_one card) (length slice)) (count ∷ []) (vector (code_of (edition_one card))) [] (sym e) ∙ ap vector (sym is)))
            ∙ take-padded 17 (C.m + 1) (vector C) (vector-length C)

        pub printed_listing : printed card (length slice) ≡ listing_text C.k C.m (take count l) (take (C.m + 1) v)
        unfolding printed
        printed_listing =
            unless_accepted (erasures_report (edition_one card) (length slice)) (count ∷ []) (text_of (code_of (edition_one card))) (refused_text (erasures_report (edition_one card) (length slice)).number) (sym e)
            ∙ ap text_of (sym is)
            ∙ sym (ap₂ (λ (x y : List ℕ). listing_text C.k C.m x y) entries_are vector_is)
