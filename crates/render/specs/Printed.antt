-- Document 01, "Worked codes": what the listing program prints for a card, where it lends n entries.
-- Assumes nothing.
use Rattle.std.specs.Prelude.{List, [], ℕ, Result, Ok, Err, leb, length, take, if◌then◌else◌}
use Rattle.flat.specs.Cards.{code_of, edition_one}
use Rattle.flat.specs.Erasures.{erasures, vector}
use Rattle.flat.specs.Faults.{unless_refused, erasures_report}
use Rattle.text.specs.Text.{listing_text, refused_text}
use Rattle.text.specs.declared.TooShort.{TooShort}

-- the code, its list and its vector; of a refusal its number
unfoldable pub printed : List ℕ → ℕ → List ℕ
unfolding unless_refused erasures_report listing_text refused_text erasures vector code_of
printed card n =
    let C = code_of (edition_one card) in
    unless_refused (erasures_report (edition_one card) n)
    (listing_text C.k C.m (erasures C) (vector C))
    (refused_text (erasures_report (edition_one card) n).number)

-- the part of the buffer that holds a text; none where the buffer was too short
unfoldable pub shown_part : Result ℕ TooShort → List ℕ → List ℕ
shown_part (Ok n) out = if leb n (length out) then take n out else []
shown_part (Err short) out = []
