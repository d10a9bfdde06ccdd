-- The reports of the converter fit into one number: it names none.
-- Assumes nothing.
use mathlib.Core.List.{List}
use Prim.Native.Nat.{ℕ}
use native.Mathlib.Omega.{arith}
use lib.Dec.{eqb}
use Rattle.flat.specs.declared.Edition.TheVariants.{First, Second}
use Rattle.flat.specs.Cards.{code_of, edition_one, edition_two, edition_length, wears_of}
use Rattle.editions.specs.Converting.{all_one, up_tests, up_report, down_tests, down_report}
use Rattle.export_bounds.specs.Coded.{Fits}
use Rattle.export_bounds.proofs.Values.{plain, test, with_fits}

pub up_fits : (card : List ℕ) (n : ℕ) → Fits (up_report card n)
unfolding up_report up_tests
up_fits card n =
    with_fits (edition_one card) (λ C. up_tests C n)
    (λ _. test (eqb n (edition_length Second (code_of (edition_one card)))) 7 _ (omega arith) (λ _. plain 0 (omega arith)))

pub down_fits : (card : List ℕ) (n : ℕ) → Fits (down_report card n)
unfolding down_report down_tests
down_fits card n =
    with_fits (edition_two card) (λ C. down_tests C (wears_of (edition_two card)) n)
    (λ _. test (eqb n (edition_length First (code_of (edition_two card)))) 7 _ (omega arith)
    (λ _. test (all_one (wears_of (edition_two card))) 24 _ (omega arith) (λ _. plain 0 (omega arith))))
