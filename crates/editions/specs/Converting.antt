-- Document 02, request [10]: the converter between the editions. It goes up always, and down only when all wear is 1.
-- Assumes nothing.
use Rattle.std.specs.Prelude.{Bool, true, not, ◌&&◌, List, [], ◌∷◌, ℕ, eqb, length, if◌then◌else◌}
use Rattle.flat.specs.declared.Edition.TheVariants.{First, Second}
use Rattle.flat.specs.Cards.{Code, edition_one, edition_two, edition_bytes, edition_length, code_of, wears_of}
use Rattle.flat.specs.Faults.{Report, accepted, refused, unless_refused, with_card}

-- ---- up, for a card of edition 1 and a buffer of n bytes

unfoldable pub up_tests : Code → ℕ → Report
unfolding edition_length
up_tests C n = if not (eqb n (edition_length Second C)) then refused 7 [] else accepted []

unfoldable pub up_report : List ℕ → ℕ → Report
unfolding with_card up_tests
up_report card n = with_card (edition_one card) (λ C. up_tests C n)

-- the same code, and the wears that count for edition 1
unfoldable pub up_buffer : List ℕ → List ℕ → List ℕ
unfolding unless_refused up_report edition_bytes code_of wears_of
up_buffer card buffer =
    unless_refused (up_report card (length buffer)) (edition_bytes Second (code_of (edition_one card)) (wears_of (edition_one card))) buffer

-- ---- down, for a card of edition 2 and a buffer of n bytes

-- is each wear 1?
unfoldable pub all_one : List ℕ → Bool
all_one [] = true
all_one (w ∷ ws) = eqb w 1 && all_one ws

unfoldable pub down_tests : Code → List ℕ → ℕ → Report
unfolding edition_length all_one
down_tests C wears n =
    if not (eqb n (edition_length First C)) then refused 7 [] else
    if not (all_one wears) then refused 24 [] else
    accepted []

unfoldable pub down_report : List ℕ → ℕ → Report
unfolding with_card down_tests wears_of
down_report card n = with_card (edition_two card) (λ C. down_tests C (wears_of (edition_two card)) n)

-- the same code, without wears
unfoldable pub down_buffer : List ℕ → List ℕ → List ℕ
unfolding unless_refused down_report edition_bytes code_of
down_buffer card buffer = unless_refused (down_report card (length buffer)) (edition_bytes First (code_of (edition_two card)) []) buffer
