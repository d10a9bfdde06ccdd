-- Wherever rebuilding does not give 11, a partial rebuild is rebuilding: report by report, test by test, and in the stripe.
-- Assumes nothing.
use mathlib.Core.Path.{◌≡◌, refl, sym, ap, ◌∙◌}
use mathlib.Core.Bool.{Bool, true, false, not}
use mathlib.Core.Logic.{◌≢◌, ⊎_elim}
use mathlib.Core.List.{List, [], ◌∷◌}
use Prim.Native.Nat.{ℕ, ◌*◌, ◌<◌}
use native.Mathlib.Omega.{arith}
use lib.Dec.{T, eqb}
use lib.ListN.{length}
use Rattle.std.specs.Prelude.{if◌then◌else◌}
use Rattle.gf2.proofs.Tests.{dec, eqb_in, eqb_out}
use Rattle.flat.specs.Cards.{Code, Card, code_of, disks, set_ok}
use Rattle.flat.specs.Strips.{length_ok}
use Rattle.flat.specs.Erasures.{fatal, undetermined_set, determined_set}
use Rattle.flat.specs.Rebuilding.{agreeing, restored}
use Rattle.flat.specs.Faults.{Report, accepted, refused, unless_refused, card_report, with_card, stripe_tests, survivors_report, disks_report, rebuild_tests, rebuild_report, rebuild_stripe}
use Rattle.flat.proofs.Reports.{unless_number, unless_not}
use Rattle.flat.proofs.Never.{Not, never_with, never_tests}
use Rattle.flat.proofs.Undetermined.{fatal-undetermined, all-determined}
use Rattle.flat.proofs.Rebuilds.{accepted_safe}
use Rattle.partial_rebuilding.specs.Faults.{found_report, partial_tests, partial_report, partial_stripe}
use Rattle.partial_rebuilding.specs.Theorems.{PartialWhole, PartialElsewhere}

-- the report with 0 for its values where it accepts
abbrev zeroed : Report → Report
zeroed r = unless_refused r (accepted (0 ∷ [])) r

zeroed-number : (r : Report) → (zeroed r).number ≡ r.number
zeroed-number r =
    ⊎_elim (λ t. let e = eqb_out r.number 0 t in ap (λ (x : Report). x.number) (unless_number r (accepted (0 ∷ [])) r e) ∙ sym e)
    (λ f. ap (λ (x : Report). x.number) (unless_not r (accepted (0 ∷ [])) r (λ e. f (eqb_in e)))) (dec (eqb r.number 0))

-- ---- the report

-- what follows the tests of the stripe's arguments, where 11 is not given
found-zeroed : (U S : ℕ) (b : Bool) (found : List (List ℕ)) → ((T b → ⊥) → U ≡ 0) → (if b then refused 11 [] else survivors_report S found).number ≢ 11
    → found_report U found ≡ zeroed (if b then refused 11 [] else survivors_report S found)
unfolding found_report survivors_report unless_refused
found-zeroed U S true found z f = absurd (f refl)
found-zeroed U S false [] z f = refl
found-zeroed U S false (c ∷ cs) z f = ap (λ (x : ℕ). accepted (x ∷ [])) (z (λ t. t))

-- these tests, and the card
zeroed_tests : (C : Code) (L S n : ℕ) (r s : Report) → (s.number ≢ 11 → r ≡ zeroed s) → (stripe_tests C L S n s).number ≢ 11
    → stripe_tests C L S n r ≡ zeroed (stripe_tests C L S n s)
unfolding stripe_tests unless_refused
zeroed_tests C L S n r s e = go (not (length_ok L)) (not (set_ok C S)) (not (eqb n (disks C * L)))
  where
    tested : Bool → Bool → Bool → Report → Report
    tested t u v x = if t then refused 6 [] else if u then refused 8 [] else if v then refused 7 [] else x

    go : (t u v : Bool) → (tested t u v s).number ≢ 11 → tested t u v r ≡ zeroed (tested t u v s)
    go true u v f = refl
    go false true v f = refl
    go false false true f = refl
    go false false false f = e f

zeroed-card : (card : Card) (r s : Code → Report) → ((s (code_of card)).number ≢ 11 → r (code_of card) ≡ zeroed (s (code_of card)))
    → (with_card card s).number ≢ 11 → with_card card r ≡ zeroed (with_card card s)
unfolding with_card unless_refused
zeroed-card card r s e = go (eqb (card_report card).number 0) refl
  where
    go : (b : Bool) → eqb (card_report card).number 0 ≡ b → (if b then s (code_of card) else card_report card).number ≢ 11
        → (if b then r (code_of card) else card_report card) ≡ zeroed (if b then s (code_of card) else card_report card)
    go true q f = e f
    go false q f = rw q

-- where the set is not fatal, nothing is undetermined
none_left : (C : Code) (S : ℕ) → (T (fatal C S) → ⊥) → undetermined_set C S ≡ 0
none_left C S f =
    ⊎_elim (eqb_out (undetermined_set C S) 0) (λ g. absurd (f ((fatal-undetermined C S).1 (λ z. g (eqb_in z))))) (dec (eqb (undetermined_set C S) 0))

-- ---- both

module _ (card : Card) (L S : ℕ) (stripe : List ℕ) (f : (rebuild_report card L S stripe).number ≢ 11) where
  abbrev C : Code
  C = code_of card

  report : partial_report card L S stripe ≡ zeroed (rebuild_report card L S stripe)
  unfolding partial_report partial_tests rebuild_report rebuild_tests disks_report
  report =
      zeroed-card card (λ D. partial_tests D L S stripe) (λ D. rebuild_tests D L S stripe)
      (zeroed_tests C L S (length stripe) (found_report (undetermined_set C S) (agreeing C L S stripe)) (disks_report C L S stripe)
      (found-zeroed (undetermined_set C S) S (fatal C S) (agreeing C L S stripe) (none_left C S)))
      f

  number : (partial_report card L S stripe).number ≡ (rebuild_report card L S stripe).number
  number = ap (λ (r : Report). r.number) report ∙ zeroed-number (rebuild_report card L S stripe)

  stripes : partial_stripe card L S stripe ≡ rebuild_stripe card L S stripe
  unfolding partial_stripe rebuild_stripe
  stripes =
      let p = partial_report card L S stripe in
      let r = rebuild_report card L S stripe in
      let found = agreeing C L S stripe in
      ⊎_elim
      (λ t. let e = eqb_out r.number 0 t in
      unless_number p (restored C L (determined_set C S) stripe found) stripe (number ∙ e)
      ∙ ap (λ (D : ℕ). restored C L D stripe found) (all-determined C S (accepted_safe card L S stripe e))
      ∙ sym (unless_number r (restored C L S stripe found) stripe e))
      (λ g. unless_not p (restored C L (determined_set C S) stripe found) stripe (λ e. g (eqb_in (sym number ∙ e)))
      ∙ sym (unless_not r (restored C L S stripe found) stripe (λ e. g (eqb_in e))))
      (dec (eqb r.number 0))

pub partial_elsewhere : PartialElsewhere
partial_elsewhere card L S stripe f = (report card L S stripe f, stripes card L S stripe f)

-- ---- where nothing is undetermined, rebuilding does not give 11

survivors_never : (S : ℕ) (found : List (List ℕ)) → Not 11 (survivors_report S found)
unfolding survivors_report
survivors_never S [] = record { differs = λ e. omega arith }
survivors_never S (c ∷ cs) = record { differs = λ e. omega arith }

disks_never : (b : Bool) (S : ℕ) (found : List (List ℕ)) → (T b → ⊥) → Not 11 (if b then refused 11 [] else survivors_report S found)
disks_never true S found f = absurd (f tt)
disks_never false S found f = survivors_never S found

safe_never : (card : Card) (L S : ℕ) (stripe : List ℕ) → (T (fatal (code_of card) S) → ⊥) → (rebuild_report card L S stripe).number ≢ 11
unfolding rebuild_report rebuild_tests disks_report
safe_never card L S stripe f =
    let C = code_of card in
    let h : (5 < 11) × (11 < 22) = (omega arith, omega arith) in
    (never_with 11 h card (λ C. rebuild_tests C L S stripe)
    (never_tests 11 h C L S (length stripe) (omega arith) (disks_never (fatal C S) S (agreeing C L S stripe) f))).differs

pub partial-whole : PartialWhole
partial-whole card L S stripe z =
    partial_elsewhere card L S stripe (safe_never card L S stripe (λ t. (fatal-undetermined (code_of card) S).0 t z))
