-- Document 02, request [5]: what the second rebuild call answers, and what it leaves in the stripe, for every input. In the field's words, a
-- partial rebuild.
-- The tests stand in the documents' order: the card's, 6, 8, 7, 12. The undetermined disks and the determined ones are those of
-- flat/specs/Erasures.antt, and what restoring is stands in flat/specs/Rebuilding.antt.
-- Assumes nothing.
use Rattle.std.specs.Prelude.{List, [], ◌∷◌, ℕ, length}
use Rattle.flat.specs.Cards.{Code, Card, code_of}
use Rattle.flat.specs.Erasures.{undetermined_set, determined_set}
use Rattle.flat.specs.Rebuilding.{agreeing, restored}
use Rattle.flat.specs.Faults.{Report, accepted, refused, unless_refused, with_card, stripe_tests}

-- no content agrees with the survivors, or the disks that they don't determine
unfoldable pub found_report : ℕ → List (List ℕ) → Report
found_report U [] = refused 12 []
found_report U (content ∷ others) = accepted (U ∷ [])

unfoldable pub partial_tests : Code → ℕ → ℕ → List ℕ → Report
unfolding stripe_tests found_report undetermined_set agreeing
partial_tests C L S stripe = stripe_tests C L S (length stripe) (found_report (undetermined_set C S) (agreeing C L S stripe))

unfoldable pub partial_report : Card → ℕ → ℕ → List ℕ → Report
unfolding with_card partial_tests
partial_report card L S stripe = with_card card (λ C. partial_tests C L S stripe)

-- the determined disks are restored, and the strips of the others keep their bytes
unfoldable pub partial_stripe : Card → ℕ → ℕ → List ℕ → List ℕ
unfolding unless_refused partial_report restored determined_set agreeing code_of
partial_stripe card L S stripe =
    unless_refused (partial_report card L S stripe)
    (restored (code_of card) L (determined_set (code_of card) S) stripe (agreeing (code_of card) L S stripe)) stripe
