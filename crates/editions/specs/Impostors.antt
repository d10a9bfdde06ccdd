-- What tells the definitions from their impostors: the order of the refusals, by cards that have two faults, and what is written.
-- Assumes nothing.
use Rattle.std.specs.Prelude.{◌≡◌, List, [], ◌∷◌, ℕ, replicate}
use Rattle.flat.specs.declared.Edition.TheVariants.{First, Second}
use Rattle.flat.specs.Cards.{code, edition_one, edition_two}
use Rattle.flat.specs.Faults.{accepted, refused, card_report, card_wears, card_write_report, card_write_buffer}
use Rattle.editions.specs.Converting.{up_report, up_buffer, down_report, down_buffer}

-- k = 2, m = 2, columns {3, 1}, wear 1 of the data disks, and these wears of the parity disks
abbrev pub worn : ℕ → ℕ → List ℕ
worn a b = 2 ∷ 2 ∷ 2 ∷ 3 ∷ 0 ∷ 1 ∷ 0 ∷ 1 ∷ 1 ∷ a ∷ b ∷ []

abbrev pub plain : List ℕ
plain = 2 ∷ 2 ∷ 3 ∷ 0 ∷ 1 ∷ 0 ∷ []

-- the card reader, edition 2
pub record ReadsInOrder : Type 0 where
  -- two bytes are too few, though edition 1 takes them for counts; then another first byte, with bad counts behind it
  pub short : card_report (edition_two (1 ∷ 0 ∷ [])) ≡ refused 1 []
  pub other_first_byte : card_report (edition_two (1 ∷ 0 ∷ 0 ∷ [])) ≡ refused 22 []
  pub data_before_length : card_report (edition_two (2 ∷ 0 ∷ 0 ∷ [])) ≡ refused 2 []
  -- a card of edition 1 behind the first byte is too short for its wears
  pub no_wears : card_report (edition_two (2 ∷ plain)) ≡ refused 4 []
  pub parity_before_length : card_report (edition_two (2 ∷ 1 ∷ 17 ∷ [])) ≡ refused 3 []
  pub length_before_column : card_report (edition_two (2 ∷ 1 ∷ 1 ∷ 0 ∷ 0 ∷ 0 ∷ [])) ≡ refused 4 []
  pub greatest_wear : card_report (edition_two (worn 255 1)) ≡ accepted (2 ∷ 2 ∷ [])
  pub first_parity_before_length : card_report (edition_one (1 ∷ 17 ∷ [])) ≡ refused 3 []
  -- a bad column comes before a zero wear
  pub column_before_wear : card_report (edition_two (2 ∷ 2 ∷ 2 ∷ 3 ∷ 0 ∷ 0 ∷ 0 ∷ 1 ∷ 1 ∷ 0 ∷ 1 ∷ [])) ≡ refused 5 (1 ∷ [])
  pub zero_wear : card_report (edition_two (worn 0 1)) ≡ refused 23 []
  pub wears_in_order : card_wears (edition_two (worn 5 9)) ≡ 1 ∷ 1 ∷ 5 ∷ 9 ∷ replicate 28 0
  pub ones : card_wears (edition_one plain) ≡ 1 ∷ 1 ∷ 1 ∷ 1 ∷ replicate 28 0
  -- a card of edition 2 that is named as edition 1
  pub named_wrong : card_report (edition_one (worn 5 9)) ≡ refused 4 []

-- the card writer
pub record WritesInOrder : Type 0 where
  pub wears_for_first : card_write_report First (code 2 2 (3 ∷ 1 ∷ [])) (1 ∷ 1 ∷ 1 ∷ 1 ∷ []) 6 ≡ refused 4 []
  pub too_few_wears : card_write_report Second (code 2 2 (3 ∷ 4 ∷ [])) (1 ∷ 1 ∷ 1 ∷ []) 11 ≡ refused 4 []
  pub column_before_wear : card_write_report Second (code 2 2 (3 ∷ 4 ∷ [])) (1 ∷ 0 ∷ 1 ∷ 1 ∷ []) 11 ≡ refused 5 (1 ∷ [])
  pub wear_before_buffer : card_write_report Second (code 2 2 (3 ∷ 1 ∷ [])) (1 ∷ 1 ∷ 0 ∷ 1 ∷ []) 7 ≡ refused 23 []
  pub any_for_first : card_write_report First (code 2 2 (3 ∷ 1 ∷ [])) (0 ∷ []) 6 ≡ refused 4 []
  pub too_many_wears : card_write_report Second (code 2 2 (3 ∷ 1 ∷ [])) (1 ∷ 1 ∷ 1 ∷ 1 ∷ 1 ∷ []) 12 ≡ refused 4 []
  pub greatest_wear : card_write_report Second (code 2 2 (3 ∷ 1 ∷ [])) (1 ∷ 1 ∷ 255 ∷ 1 ∷ []) 11 ≡ accepted []
  pub written : card_write_buffer Second (code 2 2 (3 ∷ 1 ∷ [])) (1 ∷ 1 ∷ 5 ∷ 9 ∷ []) (replicate 11 0) ≡ worn 5 9

-- the converter: wear that is dropped on the way down, or refused before the buffer
pub record ConvertsInOrder : Type 0 where
  pub up : up_buffer plain (replicate 11 0) ≡ worn 1 1
  pub down : down_buffer (worn 1 1) (replicate 6 0) ≡ plain
  pub up_buffer_lem : up_report plain 12 ≡ refused 7 []
  pub lossy_last : down_report (worn 5 9) 7 ≡ refused 7 []
  pub lossy : down_report (worn 1 2) 6 ≡ refused 24 []
