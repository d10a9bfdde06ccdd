-- Demand 2: each parity strip is the byte-wise XOR of the data strips that its card names. What is read back after writing is what was written,
-- and the reader accepts only what the writer can write. One statement, with the definitions that the public contracts cite.
-- The proof is `demand2` of proofs/Demand2.antt.
-- Assumes nothing.
use Rattle.std.specs.Prelude.{◌≡◌, List, [], ℕ, ◌+◌, ◌<◌, length}
use Rattle.gf2.specs.Sets.{over}
use Rattle.flat.specs.Cards.{Card, code_of, column}
use Rattle.flat.specs.Strips.{byte_of}
use Rattle.flat.specs.Faults.{accepted, encode_report, encode_stripe}
use Rattle.flat.specs.Theorems.{CardReadsBack, CardWritesBack}
use Rattle.record_format.specs.Theorems.{RecordReadsBack, RecordWritesBack}

-- what an accepted call of the encoder leaves in the stripe
pub record RightEncoding (card : Card) (L : ℕ) (stripe : List ℕ) : Type 0 where
  -- byte t of parity disk k + j is the XOR of byte t of the data disks that column j names
  pub parity : (j t : ℕ) → j < (code_of card).m → t < L
      → byte_of L (encode_stripe card L stripe) t ((code_of card).k + j) ≡ over (code_of card).k (column (code_of card) j) (byte_of L stripe t)
  -- the data strips stay
  pub data_strips : (i t : ℕ) → i < (code_of card).k → t < L → byte_of L (encode_stripe card L stripe) t i ≡ byte_of L stripe t i
  -- and so does the stripe's length
  pub long : length (encode_stripe card L stripe) ≡ length stripe

pub record Demand2 : Type 0 where
  pub encoder : (card : Card) (L : ℕ) (stripe : List ℕ) → encode_report card L (length stripe) ≡ accepted [] → RightEncoding card L stripe
  -- what is read back after writing is what was written
  pub cards_back : CardReadsBack
  pub records_back : RecordReadsBack
  -- and the reader accepts only what the writer can write
  pub cards_only : CardWritesBack
  pub records_only : RecordWritesBack
