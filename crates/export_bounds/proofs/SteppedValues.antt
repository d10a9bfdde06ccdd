-- The stepped card's report fits into one number: it names no value.
-- Assumes nothing.
use Prim.Native.Nat.{ℕ}
use native.Mathlib.Omega.{arith}
use lib.Dec.{eqb}
use Rattle.flat.specs.Cards.{count_ok, card_length}
use Rattle.stepped_codes.specs.Stepped.{distance_ok, within_bounds}
use Rattle.stepped_codes.specs.Faults.{stepped_report}
use Rattle.export_bounds.specs.Coded.{Fits}
use Rattle.export_bounds.proofs.Values.{plain, test}

pub stepped_fits : (d m k n : ℕ) → Fits (stepped_report d m k n)
unfolding stepped_report
stepped_fits d m k n =
    test (count_ok k) 2 _ (omega arith)
    (λ _. test (count_ok m) 3 _ (omega arith)
    (λ _. test (distance_ok d) 20 _ (omega arith)
    (λ _. test (within_bounds d m k) 21 _ (omega arith) (λ _. test (eqb n (card_length m)) 7 _ (omega arith) (λ _. plain 0 (omega arith))))))
