-- Document 02, request [7]: what the call answers, and what it leaves in the buffer, for every input.
-- The tests stand in the document's order: 2, 3, 20, 21, 7.
-- Assumes nothing.
use Rattle.std.specs.Prelude.{not, List, [], ℕ, eqb, length, if◌then◌else◌}
use Rattle.flat.specs.Cards.{count_ok, card_length, card_bytes}
use Rattle.flat.specs.Faults.{Report, accepted, refused, unless_refused}
use Rattle.stepped_codes.specs.Stepped.{distance_ok, stepped, within_bounds}

-- for a buffer of n bytes
unfoldable pub stepped_report : ℕ → ℕ → ℕ → ℕ → Report
unfolding count_ok distance_ok within_bounds card_length
stepped_report d m k n =
    if not (count_ok k) then refused 2 [] else
    if not (count_ok m) then refused 3 [] else
    if not (distance_ok d) then refused 20 [] else
    if not (within_bounds d m k) then refused 21 [] else
    if not (eqb n (card_length m)) then refused 7 [] else
    accepted []

unfoldable pub stepped_buffer : ℕ → ℕ → ℕ → List ℕ → List ℕ
unfolding unless_refused stepped_report card_bytes stepped
stepped_buffer d m k buffer = unless_refused (stepped_report d m k (length buffer)) (card_bytes (stepped d m k)) buffer
