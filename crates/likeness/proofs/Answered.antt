-- The answer on two cards, by what the check found.
-- Assumes nothing.
use mathlib.Core.Path.{◌≡◌, refl, sym, ap, ◌∙◌}
use mathlib.Core.Bool.{Bool, true, false, ◌&&◌}
use mathlib.Core.List.{List, [], ◌∷◌}
use Prim.Native.Nat.{ℕ}
use borrow.Author.Tests.{eq-eqb, ne_eqb}
use lib.Dec.{eqb}
use Rattle.std.specs.Prelude.{Ok}
use Rattle.flat.specs.declared.Edition.{Edition}
use Rattle.flat.specs.Cards.{Code, card_of, code_of}
use Rattle.flat.specs.Alike.{rearranged, alike}
use Rattle.flat.specs.Faults.{Report, accepted, yes_no, with_card, alike_report, card_report}
use Rattle.card.specs.Reports.{report as check_report}
use Rattle.card.proofs.Callers.{good_with}
use Rattle.likeness.specs.Reports.{report}

-- ---- the verdict on two codes

-- do both counts agree?
abbrev counts : ℕ → ℕ → ℕ → ℕ → Bool
counts k m k' m' = eqb k k' && eqb m m'

module _ (k m k' m' : ℕ) (t : Bool) (x y : ℕ) where
  pub counts_differ : (k ≡ k' → ⊥) → t ≡ eqb x y → x ≡ k → y ≡ k' → t ≡ counts k m k' m'
  counts_differ f e p q = e ∙ rw (p, q, ne_eqb k k' f)

  pub counts_agree : k ≡ k' → t ≡ eqb x y → x ≡ m → y ≡ m' → t ≡ counts k m k' m'
  counts_agree e f p q = f ∙ rw (p, q, eq-eqb k k' e)

module _ (A B : Code) (t : Bool) (e : t ≡ counts A.k A.m B.k B.m) where
  pub verdict_counts : t ≡ false → t ≡ alike A B
  unfolding alike
  verdict_counts f = f ∙ ap (λ (b : Bool). b && rearranged A B) (sym f ∙ e)

  pub verdict_columns : t ≡ true → (r : Bool) → r ≡ rearranged A B → r ≡ alike A B
  unfolding alike
  verdict_columns f r h = h ∙ ap (λ (b : Bool). b && rearranged A B) (sym f ∙ e)

-- ---- the report

answered : (t : Bool) → report (Ok t) ≡ accepted (yes_no t ∷ [])
unfolding yes_no
answered true = refl
answered false = refl

-- the report of a verdict that is right, on two cards that are good
pub alike_both : (a b : Edition) (bs cs : List ℕ) (A B : Code) → check_report (Ok A) ≡ card_report (card_of a bs) → A ≡ code_of (card_of a bs)
    → check_report (Ok B) ≡ card_report (card_of b cs) → B ≡ code_of (card_of b cs)
    → (t : Bool) → t ≡ alike A B → report (Ok t) ≡ alike_report (card_of a bs) (card_of b cs)
unfolding alike_report
alike_both a b bs cs A B first is second same t e =
    good_with a bs (λ C. with_card (card_of b cs) (answer C)) A _ first is
    (good_with b cs (answer A) B _ second same (answered t ∙ ap (λ (u : Bool). accepted (yes_no u ∷ [])) e))
  where
    answer : Code → Code → Report
    answer C D = accepted (yes_no (alike C D) ∷ [])
