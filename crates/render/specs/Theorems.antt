-- That the listing program prints its whole text, and keeps edition 1 of the card. The proofs are those of proofs/Theorems.antt.
-- Assumes nothing.
use Rattle.std.specs.Prelude.{◌≡◌, List, [], ◌∷◌, ℕ, ◌+◌, ◌*◌, ◌≤◌, length}
use Rattle.text.specs.Text.{listing_text, refused_text}
use Rattle.text.specs.Answers.{text_answer, text_buffer}
use Rattle.render.specs.Printed.{printed, shown_part}

-- a length that suffices where n entries are lent: 14 bytes for each, and 120 for the first and the last line
abbrev pub longest : ℕ → ℕ
longest n = 14 * n + 120

-- No text is longer, whatever the card.
abbrev pub PrintedShort : Type 0
PrintedShort = (card : List ℕ) (n : ℕ) → length (printed card n) ≤ longest n

-- So a buffer of that many bytes holds it, and the part that is shown is the whole.
abbrev pub PrintedWhole : Type 0
PrintedWhole =
    (card buffer : List ℕ) (n : ℕ) → longest n ≤ length buffer
    → shown_part (text_answer (printed card n) (length buffer)) (text_buffer (printed card n) buffer) ≡ printed card n

-- C6's card is listed, and the same code in edition 2 is refused, as a card of edition 1 of another length.
abbrev pub EditionKept : Type 0
EditionKept =
    (printed (2 ∷ 1 ∷ 1 ∷ 0 ∷ []) 16 ≡ listing_text 2 1 (2 ∷ 5 ∷ []) (1 ∷ 1 ∷ []))
    × (printed (2 ∷ 2 ∷ 1 ∷ 1 ∷ 0 ∷ 1 ∷ 1 ∷ 1 ∷ []) 16 ≡ refused_text 4)
