-- The reports of the verdict call, the lister and the equation call for an accepted card, and the slices at exit.
-- Assumes nothing.
use mathlib.Core.Path.{◌≡◌, refl, sym, ap, ◌∙◌, subst}
use mathlib.Core.Bool.{Bool, not}
use mathlib.Core.List.{List, [], ◌∷◌}
use Prim.Native.Nat.{ℕ, ◌<◌}
use native.Mathlib.Nat.{lt_of_le_of_lt}
use borrow.Author.Tests.{not-false, lt-ltb}
use lib.Dec.{T, ltb}
use lib.ListN.{length, take}
use Rattle.std.specs.Prelude.{if◌then◌else◌}
use Rattle.gf2.specs.Sets.{has}
use Rattle.gf2.proofs.Tests.{T_true, true-T, ltb_out}
use Rattle.gf2.proofs.Subsets.{⊆_trans, ⊆_le}
use Rattle.flat.specs.Lists.{member}
use Rattle.flat.specs.Cards.{Code, Card, code_of, disks, set_ok}
use Rattle.flat.specs.Erasures.{survivors, undetermined_set, erasures}
use Rattle.flat.specs.Equations.{equations}
use Rattle.flat.specs.Faults.{accepted, refused, card_report, verdict_tests, verdict_report, list_report, list_slice, erasures_report, erasures_slice, equations_tests, equations_report, equations_slice}
use Rattle.flat.specs.Theorems.{EquationListed, LongSlicesAccepted}
use Rattle.flat.proofs.Reports.{passed, unless_accepted, with_accepted, list_fits, list_written}
use Rattle.flat.proofs.Quantifiers.{set_lt}
use Rattle.flat.proofs.CheckWords.{equation-least}
use Rattle.flat.proofs.EquationsListed as equated

module _ (card : Card) (k m : ℕ) (ok : card_report card ≡ accepted (k ∷ m ∷ [])) where
  abbrev C : Code
  C = code_of card

  pub verdict-is : (S : ℕ) → T (set_ok C S) → verdict_report card S ≡ accepted (undetermined_set C S ∷ [])
  unfolding verdict_report verdict_tests
  verdict-is S t =
      with_accepted card (k ∷ m ∷ []) (λ D. verdict_tests D S) ok
      ∙ ap (λ (b : Bool). if not b then refused 8 [] else accepted (undetermined_set C S ∷ [])) (T_true {b = set_ok C S} t)

  -- what the lister writes, and what the equation call writes
  pub erasures-written : (slice : List ℕ) (count : ℕ) → erasures_report card (length slice) ≡ accepted (count ∷ [])
      → take count (erasures_slice card slice) ≡ erasures C
  unfolding erasures_report erasures_slice
  erasures-written slice count e =
      ap (take count) (unless_accepted (erasures_report card (length slice)) (count ∷ []) (list_slice (erasures C) slice) slice e)
      ∙ list_written (erasures C) slice count (sym (with_accepted card (k ∷ m ∷ []) (λ D. list_report (erasures D) (length slice)) ok) ∙ e)

  -- the equation call accepts only a disk of the code
  equations-accepted : (d n count : ℕ) → equations_report card d n ≡ accepted (count ∷ [])
      → T (ltb d (disks C)) × (list_report (equations C d) n ≡ accepted (count ∷ []))
  unfolding equations_report equations_tests
  equations-accepted d n count e =
      let p =
      passed (not (ltb d (disks C))) 8 [] (count ∷ []) (list_report (equations C d) n)
      (sym (with_accepted card (k ∷ m ∷ []) (λ D. equations_tests D d n) ok) ∙ e) in
      (true-T (not-false (ltb d (disks C)) p.0), p.1)

  pub equations-written : (d : ℕ) (slice : List ℕ) (count : ℕ) → equations_report card d (length slice) ≡ accepted (count ∷ [])
      → (d < disks C) × (take count (equations_slice card d slice) ≡ equations C d)
  unfolding equations_slice
  equations-written d slice count e =
      let p = equations-accepted d (length slice) count e in (
        ltb_out d (disks C) p.0,
        ap (take count) (unless_accepted (equations_report card d (length slice)) (count ∷ []) (list_slice (equations C d) slice) slice e)
            ∙ list_written (equations C d) slice count p.1,
      )

pub equation-listed : EquationListed
unfolding survivors
equation-listed card slice S d k m count ok e =
    let C = code_of card in
    let a = equations-written card k m ok d slice count e in
    let w = a.1 in (
      λ r. let l = lt_of_le_of_lt (⊆_le r.0 (survivors C S) r.1) (set_lt (disks C) (λ i. not (has S i))) in
          let f = equated.equation-listed C d r.0 l r.2 in
          (f.0, subst (λ (l : List ℕ). T (member f.0 l)) (sym w) f.1, ⊆_trans f.0 r.0 (survivors C S) f.2 r.1),
      λ r. (r.0, r.2, ((equation-least C d r.0).0 (equated.equations_out C d r.0 (subst (λ (l : List ℕ). T (member r.0 l)) w r.1)).1).holds),
    )

pub long_slices_accepted : LongSlicesAccepted
unfolding erasures_report equations_report equations_tests
long_slices_accepted card n d k m ok =
    let C = code_of card in (
      λ l. with_accepted card (k ∷ m ∷ []) (λ D. list_report (erasures D) n) ok ∙ sym (list_fits (erasures C) n (length (erasures C)) refl l),
      λ h l. with_accepted card (k ∷ m ∷ []) (λ D. equations_tests D d n) ok
          ∙ ap (λ (b : Bool). if not b then refused 9 [] else list_report (equations C d) n) (lt-ltb d (disks C) h)
          ∙ sym (list_fits (equations C d) n (length (equations C d)) refl l),
    )
