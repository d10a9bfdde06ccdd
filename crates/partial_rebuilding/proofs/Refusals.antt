-- The refusals of an accepted card's arguments, in order.
-- Assumes nothing.
use mathlib.Core.Path.{sym, ◌∙◌}
use mathlib.Core.List.{[], ◌∷◌}
use lib.ListN.{length}
use Rattle.gf2.proofs.Tests.{T_true, T_false}
use Rattle.flat.specs.Cards.{code_of, set_ok}
use Rattle.flat.specs.Strips.{length_ok}
use Rattle.flat.specs.Erasures.{undetermined_set}
use Rattle.flat.specs.Rebuilding.{agreeing}
use Rattle.flat.specs.Faults.{verdict_tests, verdict_report}
use Rattle.flat.proofs.Reports.{with_accepted}
use Rattle.flat.proofs.Tested.{tests_length, tests_set, tests_size}
use Rattle.partial_rebuilding.specs.Faults.{found_report, partial_tests, partial_report}
use Rattle.partial_rebuilding.specs.Theorems.{PartialRefuses, VerdictRefuses}

pub partial_refuses : PartialRefuses
unfolding partial_report partial_tests
partial_refuses card k m L S stripe ok =
    let C = code_of card in
    let n = length stripe in
    let next = found_report (undetermined_set C S) (agreeing C L S stripe) in
    let tested = with_accepted card (k ∷ m ∷ []) (λ D. partial_tests D L S stripe) ok in
    record {
      six = λ f. tested ∙ sym (tests_length C L S n next (T_false {b = length_ok L} f));
      eight = λ l f. tested ∙ sym (tests_set C L S n next (T_true {b = length_ok L} l) (T_false {b = set_ok C S} f));
      seven = λ l s f. tested ∙ sym (tests_size C L S n next (T_true {b = length_ok L} l) (T_true {b = set_ok C S} s) f);
    }

pub verdict_refuses : VerdictRefuses
unfolding verdict_report verdict_tests
verdict_refuses card k m S ok f = with_accepted card (k ∷ m ∷ []) (λ D. verdict_tests D S) ok ∙ rw (T_false {b = set_ok (code_of card) S} f)
