-- Document 02, request [11]: what the three calls answer, and what they leave in the second buffer and in the stripe, for every input.
-- The tests stand in the documents' order: the card's, 6, 7 for turning; the card's, 6, 8, 7, 11, 12 for the turned rebuild. No r is refused: 6, 8 and 7
-- don't look at it, and 11 and 12 only to know the disks.
-- Assumes nothing.
use Rattle.std.specs.Prelude.{not, List, [], ℕ, ◌*◌, eqb, length, if◌then◌else◌}
use Rattle.flat.specs.Cards.{Code, Card, code_of, disks}
use Rattle.flat.specs.Strips.{length_ok}
use Rattle.flat.specs.Faults.{Report, accepted, refused, unless_refused, with_card, stripe_tests, disks_report, rebuild_stripe}
use Rattle.turning.specs.Turning.{turned, turned_back, disks_of}

-- ---- turn, and turn back

-- for a stripe of n bytes and a second buffer of p
unfoldable pub turn_tests : Code → ℕ → ℕ → ℕ → Report
unfolding length_ok disks
turn_tests C L n p =
    if not (length_ok L) then refused 6 [] else
    if not (eqb n (disks C * L)) then refused 7 [] else
    if not (eqb p (disks C * L)) then refused 7 [] else
    accepted []

unfoldable pub turn_report : Card → ℕ → ℕ → ℕ → Report
unfolding with_card turn_tests
turn_report card L n p = with_card card (λ C. turn_tests C L n p)

-- what turning leaves in the second buffer
unfoldable pub turn_buffer : Card → ℕ → ℕ → List ℕ → List ℕ → List ℕ
unfolding unless_refused turn_report turned disks code_of
turn_buffer card L r stripe buffer =
    unless_refused (turn_report card L (length stripe) (length buffer)) (turned (disks (code_of card)) L r stripe) buffer

-- and what turning back does
unfoldable pub turn_back_buffer : Card → ℕ → ℕ → List ℕ → List ℕ → List ℕ
unfolding unless_refused turn_report turned_back disks code_of
turn_back_buffer card L r stripe buffer =
    unless_refused (turn_report card L (length stripe) (length buffer)) (turned_back (disks (code_of card)) L r stripe) buffer

-- ---- the turned rebuild

-- the tests of strip length, lost slots and stripe; then the faults of the disks in those slots, with the stripe turned back
unfoldable pub turned_tests : Code → ℕ → ℕ → ℕ → List ℕ → Report
unfolding stripe_tests disks_report disks_of turned_back disks
turned_tests C L r S stripe =
    stripe_tests C L S (length stripe) (disks_report C L (disks_of (disks C) r S) (turned_back (disks C) L r stripe))

unfoldable pub turned_report : Card → ℕ → ℕ → ℕ → List ℕ → Report
unfolding with_card turned_tests
turned_report card L r S stripe = with_card card (λ C. turned_tests C L r S stripe)

-- the stripe turned back, rebuilt, and turned
unfoldable pub turned_stripe : Card → ℕ → ℕ → ℕ → List ℕ → List ℕ
unfolding unless_refused turned_report turned rebuild_stripe disks_of turned_back disks code_of
turned_stripe card L r S stripe =
    let n = disks (code_of card) in
    unless_refused (turned_report card L r S stripe) (turned n L r (rebuild_stripe card L (disks_of n r S) (turned_back n L r stripe))) stripe
