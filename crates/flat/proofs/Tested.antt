-- The tests of a strip length, a lost set and a stripe: their answer at each way out, what is known past them, and a call that makes them after
-- the card's.
-- Assumes nothing.
use mathlib.Core.Path.{◌≡◌, sym, ap, ◌∙◌}
use mathlib.Core.Bool.{true, false, not}
use mathlib.Core.Logic.{◌≢◌}
use mathlib.Core.List.{List, []}
use Prim.Native.Nat.{ℕ, ◌*◌, ◌^◌, ◌≤◌, ◌<◌}
use borrow.Author.Tests.{not-false}
use lib.Dec.{T, eqb}
use Rattle.gf2.proofs.Tests.{true-T, T_true, T_false, eqb_in, eqb_out, ltb_out}
use Rattle.flat.specs.Cards.{Code, Card, code_of, disks, set_ok}
use Rattle.flat.specs.Strips.{length_ok}
use Rattle.flat.specs.Faults.{Report, accepted, refused, card_report, with_card, stripe_tests}
use Rattle.flat.proofs.Reports.{passed-number, with_accepted, with_number}
use Rattle.flat.proofs.Lengths.{length_in_lem}

-- what a call has tested
pub record Passed (C : Code) (L S n : ℕ) : Type 0 where
  pub length_ok_lem : length_ok L ≡ true
  pub set_ok_lem : set_ok C S ≡ true
  pub size : n ≡ disks C * L

pub passed_length : {C : Code} {L S n : ℕ} → Passed C L S n → (1 ≤ L) × (L ≤ 65536)
passed_length {C} {L} p = length_in_lem L p.length_ok_lem

pub passed-set : {C : Code} {L S n : ℕ} → Passed C L S n → S < 2 ^ disks C
unfolding set_ok
passed-set {C} {L} {S} p = ltb_out S (2 ^ disks C) (true-T p.set_ok_lem)

module _ (C : Code) (L S n : ℕ) (next : Report) where
  pub tests_length : length_ok L ≡ false → refused 6 [] ≡ stripe_tests C L S n next
  unfolding stripe_tests
  tests_length e = simp e

  pub tests_set : length_ok L ≡ true → set_ok C S ≡ false → refused 8 [] ≡ stripe_tests C L S n next
  unfolding stripe_tests
  tests_set l e = simp (l, e)

  pub tests_size : length_ok L ≡ true → set_ok C S ≡ true → n ≢ disks C * L → refused 7 [] ≡ stripe_tests C L S n next
  unfolding stripe_tests
  tests_size l s f =
      let e : eqb n (disks C * L) ≡ false = T_false {b = eqb n (disks C * L)} (λ t. f (eqb_out n (disks C * L) t)) in simp (l, s, e)

  pub tests_past : Passed C L S n → stripe_tests C L S n next ≡ next
  unfolding stripe_tests
  tests_past p =
      let e : eqb n (disks C * L) ≡ true = T_true {b = eqb n (disks C * L)} (eqb_in p.size) in simp (p.length_ok_lem, p.set_ok_lem, e)

  -- where the whole accepts, the tests did not refuse
  pub tests_passed : (stripe_tests C L S n next).number ≡ 0 → Passed C L S n
  unfolding stripe_tests
  tests_passed e =
      let a = passed-number (not (length_ok L)) 5 [] _ e in
      let b = passed-number (not (set_ok C S)) 7 [] _ a.1 in
      let c = passed-number (not (eqb n (disks C * L))) 6 [] _ b.1 in
      record {
        length_ok_lem = not-false _ a.0;
        set_ok_lem = not-false _ b.0;
        size = eqb_out n (disks C * L) (true-T {b = eqb n (disks C * L)} (not-false _ c.0));
      }

-- ---- after the card's

module _ (card : Card) (L S n : ℕ) (next : Code → Report) where
  abbrev report : Report
  report = with_card card (λ C. stripe_tests C L S n (next C))

  -- for an accepted card, a set of its disks, a length and a stripe of that length
  pub tests_are : (ws : List ℕ) → card_report card ≡ accepted ws → T (length_ok L) → T (set_ok (code_of card) S) → n ≡ disks (code_of card) * L
      → report ≡ next (code_of card)
  tests_are ws ok a b e =
      with_accepted card ws (λ C. stripe_tests C L S n (next C)) ok
      ∙ tests_past (code_of card) L S n (next (code_of card)) (record { length_ok_lem = T_true {b = length_ok L} a; set_ok_lem = T_true {b = set_ok (code_of card) S} b; size = e })

  -- where the whole accepts, so does what follows
  pub tests_number : report.number ≡ 0 → (next (code_of card)).number ≡ 0
  tests_number e =
      let number : Report → ℕ = λ r. r.number in
      let t = sym (ap number (with_number card (λ C. stripe_tests C L S n (next C)) e)) ∙ e in
      sym (ap number (tests_past (code_of card) L S n (next (code_of card)) (tests_passed (code_of card) L S n (next (code_of card)) t))) ∙ t
