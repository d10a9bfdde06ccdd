-- Document 02, request [4]: what the call answers, and what it leaves in the stripe, for every input.
-- The tests stand in the documents' order: the card's, 6, 9, 18, 7, 19.
-- Assumes nothing.
use Rattle.std.specs.Prelude.{not, List, [], ◌∷◌, ℕ, ◌+◌, ◌*◌, eqb, ltb, length, if◌then◌else◌}
use Rattle.flat.specs.Cards.{Code, Card, code_of, disks}
use Rattle.flat.specs.Strips.{length_ok}
use Rattle.flat.specs.Faults.{Report, accepted, refused, unless_refused, with_card}
use Rattle.updating.specs.Updating.{updated, naming}

-- for a stripe of n bytes and a new strip of p: one plus the number of naming parities
unfoldable pub update_tests : Code → ℕ → ℕ → ℕ → ℕ → Report
unfolding length_ok disks naming
update_tests C L n d p =
    if not (length_ok L) then refused 6 [] else
    if not (ltb d (disks C)) then refused 9 [] else
    if not (ltb d C.k) then refused 18 [] else
    if not (eqb n (disks C * L)) then refused 7 [] else
    if not (eqb p L) then refused 19 [] else
    accepted ((1 + naming C d) ∷ [])

unfoldable pub update_report : Card → ℕ → ℕ → ℕ → ℕ → Report
unfolding with_card update_tests
update_report card L n d p = with_card card (λ C. update_tests C L n d p)

unfoldable pub update_stripe : Card → ℕ → List ℕ → ℕ → List ℕ → List ℕ
unfolding unless_refused update_report updated code_of
update_stripe card L stripe d new =
    unless_refused (update_report card L (length stripe) d (length new)) (updated (code_of card) L d new stripe) stripe
