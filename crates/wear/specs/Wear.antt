-- Document 02, request [10]: for a disk and a lost set, the equation among the survivors with the least total wear.
-- The tests stand in the documents' order: 8, 9, 11.
-- Assumes nothing.
use Rattle.std.specs.Prelude.{not, List, [], ◌∷◌, ℕ, ◌^◌, leb, ltb, get_or, if◌then◌else◌}
use Rattle.gf2.specs.Sets.{has, ◌∪◌, ◌⊆◌}
use Rattle.flat.specs.Lists.{tabulate, filter, sum}
use Rattle.flat.specs.Cards.{Code, Card, disks, set_ok, wears_of}
use Rattle.flat.specs.Erasures.{survivors}
use Rattle.flat.specs.Equations.{equations}
use Rattle.flat.specs.Faults.{Report, accepted, refused, with_card}

-- the sum of f i over the disks i of E below n
unfoldable pub sum_over : ℕ → ℕ → (ℕ → ℕ) → ℕ
unfolding sum tabulate has
sum_over n E f = sum (tabulate n (λ i. if has E i then f i else 0))

-- the total wear of a set of the code's disks
unfoldable pub total_wear : Code → List ℕ → ℕ → ℕ
unfolding sum_over disks
total_wear C wears E = sum_over (disks C) E (λ i. get_or wears i 0)

-- the lost set with the disk itself, named or not
unfoldable pub lost_with : ℕ → ℕ → ℕ
unfolding ◌∪◌
lost_with S d = S ∪ 2 ^ d

-- the listed equations of disk d among the survivors, in the list's order
unfoldable pub equations_left : Code → ℕ → ℕ → List ℕ
unfolding filter ◌⊆◌ survivors lost_with equations
equations_left C d S = filter (λ E. E ⊆ survivors C (lost_with S d)) (equations C d)

-- the first of the least key, of x and some after it
unfoldable pub first_least : (ℕ → ℕ) → ℕ → List ℕ → ℕ
first_least key x [] = x
first_least key x (y ∷ ys) = if leb (key x) (key (first_least key y ys)) then x else first_least key y ys

-- it, or 11 where there is none
unfoldable pub least_report : (ℕ → ℕ) → List ℕ → Report
unfolding first_least
least_report key [] = refused 11 []
least_report key (E ∷ Es) = accepted (first_least key E Es ∷ [])

-- the least-wear call, for a disk d and a lost set S
unfoldable pub least_wear_tests : Code → List ℕ → ℕ → ℕ → Report
unfolding set_ok disks least_report total_wear equations_left
least_wear_tests C wears d S =
    if not (set_ok C S) then refused 8 [] else
    if not (ltb d (disks C)) then refused 9 [] else
    least_report (total_wear C wears) (equations_left C d S)

unfoldable pub least_wear_report : Card → ℕ → ℕ → Report
unfolding with_card least_wear_tests wears_of
least_wear_report card d S = with_card card (λ C. least_wear_tests C (wears_of card) d S)
