-- A partial rebuild's report fits into one number: its value is a set of the code's disks.
-- Assumes nothing.
use mathlib.Core.List.{List, [], ◌∷◌}
use Prim.Native.Nat.{ℕ, ◌*◌}
use native.Mathlib.Omega.{arith}
use lib.Dec.{eqb}
use lib.ListN.{length}
use Rattle.flat.specs.Cards.{Card, code_of, disks, set_ok}
use Rattle.flat.specs.Strips.{length_ok}
use Rattle.flat.specs.Erasures.{undetermined_set}
use Rattle.flat.specs.Rebuilding.{agreeing}
use Rattle.flat.specs.Faults.{accepted, stripe_tests}
use Rattle.partial_rebuilding.specs.Faults.{found_report, partial_tests, partial_report}
use Rattle.export_bounds.specs.Coded.{Fits}
use Rattle.export_bounds.proofs.Values.{plain, test, with_fits, undetermined_fits}

found_fits : (U : ℕ) (found : List (List ℕ)) → Fits (accepted (U ∷ [])) → Fits (found_report U found)
unfolding found_report
found_fits U [] h = plain 12 (omega arith)
found_fits U (c ∷ cs) h = h

pub partial_fits : (card : Card) (L S : ℕ) (stripe : List ℕ) → Fits (partial_report card L S stripe)
unfolding partial_report partial_tests stripe_tests
partial_fits card L S stripe =
    let C = code_of card in
    with_fits card (λ C. partial_tests C L S stripe)
    (λ h. test (length_ok L) 6 _ (omega arith)
    (λ _. test (set_ok C S) 8 _ (omega arith)
    (λ e. test (eqb (length stripe) (disks C * L)) 7 _ (omega arith)
    (λ _. found_fits (undetermined_set C S) (agreeing C L S stripe) (undetermined_fits C S h e)))))
