-- Document 01, "Disks, sets and cards", with the second edition of the card of document 02, request [10].
-- A code is a flat XOR erasure code. A column is a parity check's bitmap over the data disks. A card is the document's word for a
-- code's description as bytes. Sets of disks, their bits and their size are those of gf2/specs/Sets.antt.
-- Assumes nothing.
use Rattle.std.specs.Prelude.{Bool, true, ◌&&◌, List, [], ◌∷◌, ◌++◌, ℕ, suc, ◌+◌, ◌*◌, ◌%◌, ◌^◌, leb, ltb, eqb, get_or, take, drop, replicate, if◌then◌else◌}
use Rattle.flat.specs.declared.Edition.{Edition}
use Rattle.flat.specs.declared.Edition.TheVariants.{First, Second}
use Rattle.flat.specs.Lists.{tabulate, each, bytes, field}

-- k data disks, numbers 0 to k - 1; m parity disks, numbers k to k + m - 1; column j has bit i set when data disk i goes into
-- parity disk k + j
pub record Code : Type 0 where
  pub k : ℕ
  pub m : ℕ
  pub columns : List ℕ

abbrev pub code : ℕ → ℕ → List ℕ → Code
code k m columns = record { k = k; m = m; columns = columns }

-- n, how many disks the code has
unfoldable pub disks : Code → ℕ
disks C = C.k + C.m

-- the column of parity disk k + j
unfoldable pub column : Code → ℕ → ℕ
column C j = get_or C.columns j 0

-- a set's data part
unfoldable pub data_part : Code → ℕ → ℕ
data_part C S = S % 2 ^ C.k

-- has a set no bit at n or above?
unfoldable pub set_ok : Code → ℕ → Bool
unfolding disks
set_ok C S = ltb S (2 ^ disks C)

-- k and m are 1 to 16
unfoldable pub count_ok : ℕ → Bool
count_ok n = leb 1 n && leb n 16

-- a column is 1 to 2 ^ k - 1
unfoldable pub column_ok : ℕ → ℕ → Bool
column_ok k c = leb 1 c && ltb c (2 ^ k)

-- the number of the first column that is none, or how many columns there are
unfoldable pub first_bad : ℕ → List ℕ → ℕ
unfolding column_ok
first_bad k [] = 0
first_bad k (c ∷ cs) = if column_ok k c then suc (first_bad k cs) else 0

-- the length of a card of the first edition
unfoldable pub card_length : ℕ → ℕ
card_length m = 2 + 2 * m

-- its bytes: k, m, then the columns, two bytes each, low byte first
unfoldable pub card_bytes : Code → List ℕ
unfolding each bytes
card_bytes C = C.k ∷ C.m ∷ each (bytes 2) C.columns

-- the m columns that stand in bytes
unfoldable pub columns_in : ℕ → List ℕ → List ℕ
unfolding tabulate field
columns_in m bs = tabulate m (λ j. field (2 * j) 2 bs)

-- the code of k data disks and m parity disks whose columns stand in bytes
abbrev pub code_in : ℕ → ℕ → List ℕ → Code
code_in k m bs = code k m (columns_in m bs)

-- ---- two editions

-- a card as a call takes it: its edition, which the caller names, and its bytes
pub record Card : Type 0 where
  pub edition : Edition
  pub bytes : List ℕ

abbrev pub card_of : Edition → List ℕ → Card
card_of edition bytes = record { edition = edition; bytes = bytes }

-- a card of edition 1, which the record file and the listing program keep
abbrev pub edition_one : List ℕ → Card
edition_one bytes = card_of First bytes

abbrev pub edition_two : List ℕ → Card
edition_two bytes = card_of Second bytes

-- the second edition is a byte 0x02, then k, m, the columns, then a wear for each disk
unfoldable pub edition_bytes : Edition → Code → List ℕ → List ℕ
unfolding card_bytes
edition_bytes First C wears = card_bytes C
edition_bytes Second C wears = 2 ∷ card_bytes C ++ wears

-- its length is 3 + 2m + n
unfoldable pub edition_length : Edition → Code → ℕ
unfolding card_length disks
edition_length First C = card_length C.m
edition_length Second C = 3 + 2 * C.m + disks C

-- how many wears a card of n disks holds
unfoldable pub wear_count : Edition → ℕ → ℕ
wear_count First n = 0
wear_count Second n = n

-- the place of k
unfoldable pub start : Edition → ℕ
start First = 0
start Second = 1

-- is the byte before k what it has to be?
unfoldable pub first_byte_ok : Edition → List ℕ → Bool
first_byte_ok First bytes = true
first_byte_ok Second bytes = eqb (get_or bytes 0 0) 2

-- the counts that a card begins with
abbrev pub data_count : Card → ℕ
data_count card = get_or card.bytes (start card.edition) 0

abbrev pub parity_count : Card → ℕ
parity_count card = get_or card.bytes (start card.edition + 1) 0

-- the bytes of its columns: two for each, after the counts
abbrev pub column_bytes : Card → List ℕ
column_bytes card = take (2 * parity_count card) (drop (start card.edition + 2) card.bytes)

-- the code that a card describes
unfoldable pub code_of : Card → Code
unfolding columns_in start
code_of card = code_in (data_count card) (parity_count card) (column_bytes card)

-- a wear for each of n disks, where the card holds these: the first edition holds none and counts as wear 1
unfoldable pub each_wear : Edition → ℕ → List ℕ → List ℕ
each_wear First n wears = replicate n 1
each_wear Second n wears = wears

-- the wears that are read from a card; those that it holds follow its columns
unfoldable pub wears_of : Card → List ℕ
unfolding each_wear disks code_of start card_length
wears_of card =
    each_wear card.edition (disks (code_of card)) (drop (start card.edition + card_length (code_of card).m) card.bytes)
