-- What holds of a file that passed the tests before the card's.
-- Assumes nothing.
use Rattle.std.specs.Prelude.{◌≡◌, true, List, ℕ}
use Rattle.flat.specs.Strips.{length_ok}
use Rattle.record_format.specs.Records.{length_in, mark_ok, entries_ok, card_entry_ok}

-- the mark, the length of the strips, the number of entries and the card's entry are what they have to be
abbrev pub Listed : List ℕ → Type 0
Listed file = (mark_ok file ≡ true) × (length_ok (length_in file) ≡ true) × (entries_ok file ≡ true) × (card_entry_ok file ≡ true)
