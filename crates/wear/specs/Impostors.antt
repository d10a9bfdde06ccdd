-- Wrong answers, each told from the request's by a small code. The proofs are those of proofs/Impostors.antt.
-- Assumes nothing.
use Rattle.std.specs.Prelude.{◌≡◌, true, List, [], ◌∷◌, ℕ, ◌-◌, ◌^◌, T, ltb, get_or, if◌then◌else◌}
use Rattle.gf2.specs.Sets.{has, size, ◌⊆◌}
use Rattle.flat.specs.Cards.{Code, code, disks, edition_one, edition_two}
use Rattle.flat.specs.Erasures.{survivors, fatal}
use Rattle.flat.specs.Equations.{equations}
use Rattle.flat.specs.Faults.{Report, accepted, refused}
use Rattle.wear.specs.Wear.{sum_over, total_wear, lost_with, equations_left, least_report, least_wear_tests, least_wear_report}
use Rattle.wear.specs.Theorems.{Least, Eleven}

-- two data disks, and parity disks of both and of disk 0: disk 0 has the equations 8 = {3} and 6 = {1, 2}
abbrev pub pair : Code
pair = code 2 2 (3 ∷ 1 ∷ [])

-- disk 3 is worn most; and as much as disks 1 and 2 together
abbrev pub worn : List ℕ
worn = 1 ∷ 1 ∷ 1 ∷ 9 ∷ []

abbrev pub tied : List ℕ
tied = 1 ∷ 1 ∷ 1 ∷ 2 ∷ []

pub record Values : Type 0 where
  pub list : equations pair 0 ≡ 8 ∷ 6 ∷ []
  pub least : least_wear_tests pair worn 0 0 ≡ accepted (6 ∷ [])
  pub first : least_wear_tests pair tied 0 0 ≡ accepted (8 ∷ [])
  -- the disk counts as lost, named or not
  pub named : least_wear_tests pair worn 0 1 ≡ accepted (6 ∷ [])
  -- the loss of {1, 2} is fatal, and leaves an equation of disk 0
  pub fatal_set : fatal pair 6 ≡ true
  pub left : least_wear_tests pair worn 0 6 ≡ accepted (8 ∷ [])
  pub none : least_wear_tests pair worn 0 10 ≡ refused 11 []
  -- the set is tested before the disk
  pub set_first : least_wear_tests pair worn 4 16 ≡ refused 8 []
  pub disk_next : least_wear_tests pair worn 4 15 ≡ refused 9 []

-- by cards: K, then 8, 9, 11, with the card's own wears, and edition 1 as wear 1
abbrev pub bytes : ℕ → List ℕ
bytes w = 2 ∷ 2 ∷ 2 ∷ 3 ∷ 0 ∷ 1 ∷ 0 ∷ 1 ∷ 1 ∷ 1 ∷ w ∷ []

pub record Called : Type 0 where
  pub own_wears : least_wear_report (edition_two (bytes 9)) 0 0 ≡ accepted (6 ∷ [])
  pub ones : least_wear_report (edition_one (2 ∷ 2 ∷ 3 ∷ 0 ∷ 1 ∷ 0 ∷ [])) 0 0 ≡ accepted (8 ∷ [])
  pub lost : least_wear_report (edition_two (bytes 9)) 0 2 ≡ accepted (8 ∷ [])
  pub none : least_wear_report (edition_two (bytes 9)) 0 10 ≡ refused 11 []
  pub card_first : least_wear_report (edition_two (bytes 0)) 4 16 ≡ refused 23 []

-- ---- wrong values

-- least size in place of least wear
unfoldable pub by_size : Code → List ℕ → ℕ → ℕ → Report
unfolding least_report size equations_left
by_size C wears d S = least_report size (equations_left C d S)

-- the wear of the neighbour disk
unfoldable pub neighbour_wear : Code → List ℕ → ℕ → ℕ
unfolding sum_over disks
neighbour_wear C wears E = sum_over (disks C) E (λ i. get_or wears (i - 1) 0)

unfoldable pub by_neighbour : Code → List ℕ → ℕ → ℕ → Report
unfolding least_report neighbour_wear equations_left
by_neighbour C wears d S = least_report (neighbour_wear C wears) (equations_left C d S)

-- the last of those that tie
unfoldable pub last_least : (ℕ → ℕ) → ℕ → List ℕ → ℕ
last_least key x [] = x
last_least key x (y ∷ ys) = if ltb (key x) (key (last_least key y ys)) then x else last_least key y ys

unfoldable pub last_of : (ℕ → ℕ) → List ℕ → Report
unfolding last_least
last_of key [] = refused 11 []
last_of key (E ∷ Es) = accepted (last_least key E Es ∷ [])

unfoldable pub by_last_lem : Code → List ℕ → ℕ → ℕ → Report
unfolding last_of total_wear equations_left
by_last_lem C wears d S = last_of (total_wear C wears) (equations_left C d S)

-- the disk itself, where it is not lost
unfoldable pub by_itself_lem : Code → List ℕ → ℕ → ℕ → Report
unfolding has least_wear_tests
by_itself_lem C wears d S = if has S d then least_wear_tests C wears d S else accepted ((2 ^ d) ∷ [])

pub record WrongValues : Type 0 where
  pub by_size_lem : by_size pair worn 0 0 ≡ accepted (8 ∷ [])
  pub by_neighbour_lem : by_neighbour pair worn 0 0 ≡ accepted (8 ∷ [])
  pub by_last : by_last_lem pair tied 0 0 ≡ accepted (6 ∷ [])
  pub by_itself : by_itself_lem pair worn 0 0 ≡ accepted (1 ∷ [])

-- `Least` refuses them: of the first two 8 totals more than 6, wherever 6 survives; of the third 6 stands after 8, wherever that survives; and
-- a disk is in no equation of its own.
abbrev pub ValuesRefused : Type 0
ValuesRefused =
    ((S : ℕ) → T (6 ⊆ survivors pair (lost_with S 0)) → Least pair worn 0 S 8 → ⊥)
    × ((S : ℕ) → T (8 ⊆ survivors pair (lost_with S 0)) → Least pair tied 0 S 6 → ⊥)
    × ((C : Code) (wears : List ℕ) (d S : ℕ) → Least C wears d S (2 ^ d) → ⊥)

-- ---- wrong refusals

-- 11 where the lost set is fatal
unfoldable pub if_fatal : Code → List ℕ → ℕ → ℕ → Report
unfolding fatal least_wear_tests
if_fatal C wears d S = if fatal C S then refused 11 [] else least_wear_tests C wears d S

abbrev pub NotIfFatal : Type 0
NotIfFatal = Eleven if_fatal → ⊥
