-- Document 02, request [1]: what the call answers, and what it leaves in the tray, for every input.
-- The tests stand in the documents' order: the card's, 6, 17, 8, 7.
-- Assumes nothing.
use Rattle.std.specs.Prelude.{Bool, not, ◌&&◌, List, [], ◌∷◌, ℕ, ◌*◌, eqb, leb, length, get_or, if◌then◌else◌}
use Rattle.flat.specs.Lists.{every, padded}
use Rattle.flat.specs.Cards.{Code, Card, code_of, disks, set_ok}
use Rattle.flat.specs.Strips.{length_ok}
use Rattle.flat.specs.Faults.{Report, accepted, refused, unless_refused, with_card}
use Rattle.peeling.specs.Trays.{tray_peeled, total, lefts, joined}

-- a tray has 1 to 8 stripes
unfoldable pub tray_ok : ℕ → Bool
tray_ok count = leb 1 count && leb count 8

-- has each set the code's disks only?
unfoldable pub sets_ok : Code → List ℕ → Bool
unfolding every set_ok
sets_ok C Ss = every (length Ss) (λ i. set_ok C (get_or Ss i 0))

-- the steps made
unfoldable pub tray_tests : Code → ℕ → ℕ → List ℕ → List ℕ → Report
unfolding length_ok tray_ok sets_ok disks tray_peeled total
tray_tests C L budget Ss tray =
    if not (length_ok L) then refused 6 [] else
    if not (tray_ok (length Ss)) then refused 17 [] else
    if not (sets_ok C Ss) then refused 8 [] else
    if not (eqb (length tray) (length Ss * (disks C * L))) then refused 7 [] else
    accepted (total (tray_peeled C L budget Ss tray) ∷ [])

unfoldable pub tray_report : Card → ℕ → ℕ → List ℕ → List ℕ → Report
unfolding with_card tray_tests
tray_report card L budget Ss tray = with_card card (λ C. tray_tests C L budget Ss tray)

-- what is left of each set, in 8 places
unfoldable pub tray_lefts : Card → ℕ → ℕ → List ℕ → List ℕ → List ℕ
unfolding padded unless_refused tray_report lefts tray_peeled code_of
tray_lefts card L budget Ss tray =
    padded 8 (unless_refused (tray_report card L budget Ss tray) (lefts (tray_peeled (code_of card) L budget Ss tray)) [])

unfoldable pub tray_bytes : Card → ℕ → ℕ → List ℕ → List ℕ → List ℕ
unfolding unless_refused tray_report joined tray_peeled code_of
tray_bytes card L budget Ss tray =
    unless_refused (tray_report card L budget Ss tray) (joined (tray_peeled (code_of card) L budget Ss tray)) tray
