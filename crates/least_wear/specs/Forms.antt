-- One number for each set, its rank, by which the code finds the least. Nobody has to believe these: no public contract names them, and the
-- statements below say what they are.
-- Assumes nothing.
use Rattle.std.specs.Prelude.{◌≡◌, List, ℕ, zero, suc, ◌+◌, ◌*◌, ◌/◌, ◌%◌, ◌^◌, ◌≤◌, ◌<◌, ltb, length, get_or, if◌then◌else◌}
use Rattle.flat.specs.Lists.{tabulate, padded}
use Rattle.flat.specs.Cards.{Code, disks}
use Rattle.wear.specs.Wear.{sum_over}
use Rattle.wear.specs.Theorems.{Better}

-- ---- ranks

-- what disk i adds to a set's weight: its wear; then one disk; then one parity disk where it is one. A set has at most 32 disks
unfoldable pub weight_of : ℕ → List ℕ → ℕ → ℕ
weight_of k wears i = get_or wears i 0 * 2048 + 32 + (if ltb i k then 0 else 1)

-- a set's rank: its weight, and then its number
unfoldable pub rank_of : (ℕ → ℕ) → ℕ → ℕ
unfolding sum_over
rank_of weight E = sum_over 32 E weight * 2 ^ 32 + E

-- A set that goes before another has the smaller rank.
abbrev pub BetterRank : Type 0
BetterRank =
    (C : Code) (wears : List ℕ) (E F : ℕ) → disks C ≤ 32 → C.m ≤ 16 → E < 2 ^ disks C → F < 2 ^ disks C → Better C wears E F
    → rank_of (weight_of C.k wears) E < rank_of (weight_of C.k wears) F

-- ---- the table

-- place p: the weight of the set p % 256 of the eight disks from 8 * (p / 256) on
unfoldable pub entry_of : (ℕ → ℕ) → ℕ → ℕ
unfolding sum_over
entry_of weight p = sum_over 8 (p % 256) (λ i. weight (8 * (p / 256) + i))

-- how many places sets of disks below n need: with the last of these disks twice as many of its eight as without it
unfoldable pub places_for : ℕ → ℕ
places_for zero = 0
places_for (suc i) = 256 * (i / 8) + 2 * 2 ^ (i % 8)

-- the first places filled, then zeros
unfoldable pub table_to : (ℕ → ℕ) → ℕ → List ℕ
unfolding padded tabulate entry_of
table_to weight end = padded 1024 (tabulate end (entry_of weight))

-- a table whose entries can be added
abbrev pub Table : List ℕ → Type 0
Table table = (length table ≡ 1024) × ((p : ℕ) → get_or table p 0 < 2 ^ 24)

-- a set's rank out of a table: a place for each byte of its number
unfoldable pub rank_in : List ℕ → ℕ → ℕ
rank_in table E =
    (get_or table (E % 256) 0 + get_or table (256 + E / 256 % 256) 0 + get_or table (512 + E / 65536 % 256) 0 + get_or table (768 + E / 16777216) 0)
    * 2 ^ 32
    + E

-- For sets of disks below n it is the rank.
abbrev pub TableRanks : Type 0
TableRanks =
    (weight : ℕ → ℕ) (n E : ℕ) → 1 ≤ n → n ≤ 32 → E < 2 ^ n → rank_in (table_to weight (places_for n)) E ≡ rank_of weight E

-- ---- the walk

-- r is one of g 0, .., g (n - 1), and none of them is smaller
pub record LeastOf (g : ℕ → ℕ) (n r : ℕ) : Type 0 where
  pub place : ℕ
  pub below : place < n
  pub is : r ≡ g place
  pub least : (x : ℕ) → x < n → r ≤ g x
