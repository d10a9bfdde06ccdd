-- The reports of the calls on turned stripes fit into one number: as many disks are lost as slots.
-- Assumes nothing.
use mathlib.Core.List.{List}
use Prim.Native.Nat.{ℕ, ◌*◌}
use native.Mathlib.Omega.{arith}
use lib.Dec.{eqb}
use lib.ListN.{length}
use Rattle.flat.specs.Cards.{Card, code_of, disks, set_ok}
use Rattle.flat.specs.Strips.{length_ok}
use Rattle.flat.specs.Faults.{stripe_tests}
use Rattle.turning.specs.Turning.{turned_back, disks_of}
use Rattle.turning.specs.Faults.{turn_tests, turn_report, turned_tests, turned_report}
use Rattle.turning.proofs.Sets.{disks_lt}
use Rattle.export_bounds.specs.Coded.{Fits}
use Rattle.export_bounds.proofs.Values.{plain, test, with_fits, disks_fits}

pub turn_fits : (card : Card) (L n p : ℕ) → Fits (turn_report card L n p)
unfolding turn_report turn_tests
turn_fits card L n p =
    let C = code_of card in
    with_fits card (λ C. turn_tests C L n p)
    (λ h. test (length_ok L) 6 _ (omega arith)
    (λ _. test (eqb n (disks C * L)) 7 _ (omega arith)
    (λ _. test (eqb p (disks C * L)) 7 _ (omega arith) (λ _. plain 0 (omega arith)))))

pub turned_fits : (card : Card) (L r S : ℕ) (stripe : List ℕ) → Fits (turned_report card L r S stripe)
unfolding turned_report turned_tests stripe_tests
turned_fits card L r S stripe =
    let C = code_of card in
    let n = disks C in
    with_fits card (λ C. turned_tests C L r S stripe)
    (λ h. test (length_ok L) 6 _ (omega arith)
    (λ _. test (set_ok C S) 8 _ (omega arith)
    (λ _. test (eqb (length stripe) (n * L)) 7 _ (omega arith)
    (λ _. disks_fits C L (disks_of n r S) (turned_back n L r stripe) h (disks_lt n r S)))))
