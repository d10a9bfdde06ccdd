-- A number that a call never gives: none of its tests does, and the card gives 1 to 5, 22 and 23.
-- Assumes nothing.
use mathlib.Core.Bool.{Bool, true, false, not}
use mathlib.Core.Logic.{◌≢◌}
use mathlib.Core.List.{List, [], ◌∷◌}
use Prim.Native.Nat.{ℕ, ◌+◌, ◌*◌, ◌<◌}
use native.Mathlib.Omega.{arith}
use lib.Dec.{eqb, ltb}
use lib.ListN.{length}
use Rattle.std.specs.Prelude.{if◌then◌else◌}
use Rattle.flat.specs.Lists.{member}
use Rattle.flat.specs.Cards.{Code, Card, code_of, disks, set_ok, count_ok, first_bad, edition_length, start, first_byte_ok, wears_of}
use Rattle.flat.specs.Strips.{length_ok}
use Rattle.flat.specs.Faults.{Report, accepted, refused, unless_refused, code_report, card_report, with_card, stripe_tests}

-- the report's number is another
pub record Not (x : ℕ) (r : Report) : Type 0 where
  pub differs : r.number ≢ x

module _ (x : ℕ) (none : (5 < x) × (x < 22)) where
  -- another refusal first, and then not this one
  pub never_test : (b : Bool) (n : ℕ) (vs : List ℕ) {next : Report} → n ≢ x → Not x next → Not x (if b then refused n vs else next)
  never_test true n vs f g = record { differs = f }
  never_test false n vs f g = g

  pub never_accepted : (vs : List ℕ) → Not x (accepted vs)
  never_accepted vs = record { differs = λ e. omega arith }

  card_never : (card : Card) → Not x (card_report card)
  unfolding card_report code_report
  card_never card =
      let C = code_of card in
      let n = length card.bytes in
      never_test (ltb n (start card.edition + 2)) 1 [] (λ e. omega (arith, none))
      (never_test (not (first_byte_ok card.edition card.bytes)) 22 [] (λ e. omega (arith, none))
      (never_test (not (count_ok C.k)) 2 [] (λ e. omega (arith, none))
      (never_test (not (count_ok C.m)) 3 [] (λ e. omega (arith, none))
      (never_test (not (eqb n (edition_length card.edition C))) 4 [] (λ e. omega (arith, none))
      (never_test (ltb (first_bad C.k C.columns) C.m) 5 (first_bad C.k C.columns ∷ []) (λ e. omega (arith, none))
      (never_test (member 0 (wears_of card)) 23 [] (λ e. omega (arith, none)) (never_accepted (C.k ∷ C.m ∷ []))))))))

  pub never_with : (card : Card) (f : Code → Report) → Not x (f (code_of card)) → Not x (with_card card f)
  unfolding with_card unless_refused
  never_with card f g = go (eqb (card_report card).number 0)
    where
      go : (b : Bool) → Not x (if b then f (code_of card) else card_report card)
      go true = g
      go false = card_never card

  -- the tests of a stripe's arguments give 6, 8 and 7
  pub never_tests : (C : Code) (L S n : ℕ) {next : Report} → 8 < x → Not x next → Not x (stripe_tests C L S n next)
  unfolding stripe_tests
  never_tests C L S n more g =
      never_test (not (length_ok L)) 6 [] (λ e. omega arith)
      (never_test (not (set_ok C S)) 8 [] (λ e. omega arith) (never_test (not (eqb n (disks C * L))) 7 [] (λ e. omega arith) g))
