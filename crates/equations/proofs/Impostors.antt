-- Each wrong order is told from the true one: antt computes both.
-- Assumes nothing.
use mathlib.Core.Path.{◌≡◌, refl, sym, ap, ◌∙◌}
use mathlib.Core.List.{List, [], ◌∷◌}
use Prim.Native.Nat.{ℕ}
use native.Mathlib.Omega.{arith}
use lib.ListN.{get_or}
use Rattle.flat.specs.Cards.{Code}
use Rattle.flat.specs.Equations.{equations}
use Rattle.equations.specs.Impostors

pub lists : Impostors.Witnesses
unfolding equations
lists = record { c2 = refl; fewer = refl; smaller = refl }

-- the list is known, and its entry i is not that of the other
module _ (order : Code → List ℕ → List ℕ) (C : Code) (d i : ℕ) (list other : List ℕ) where
  misordered : equations C d ≡ list → order C list ≡ other → (get_or list i 0 ≡ get_or other i 0 → ⊥) → Impostors.Misordered order C d other
  misordered is computed f = (ap (order C) is ∙ computed, λ e. f (ap (λ (l : List ℕ). get_or l i 0) (sym is ∙ e)))

pub not-by-size_and_number : Impostors.NotBySizeAndNumber
unfolding Impostors.by_size_and_number
not-by-size_and_number = (
  ap (Impostors.by_size_and_number Impostors.C1) lists.c2 ∙ sym lists.c2,
  misordered Impostors.by_size_and_number Impostors.C1 2 1 (19 ∷ 73 ∷ 56 ∷ 98 ∷ []) (19 ∷ 56 ∷ 73 ∷ 98 ∷ []) lists.fewer refl (λ e. omega arith),
)

pub not-by-more-parities : Impostors.NotByMoreParities
unfolding Impostors.by_more_parities
not-by-more-parities =
    misordered Impostors.by_more_parities Impostors.C1 0 0 (22 ∷ 42 ∷ 76 ∷ 112 ∷ []) (112 ∷ 22 ∷ 42 ∷ 76 ∷ []) lists.c2 refl (λ e. omega arith)

pub not-by-parities_and_size : Impostors.NotByParitiesAndSize
unfolding Impostors.by_parities_and_size
not-by-parities_and_size = misordered Impostors.by_parities_and_size Impostors.twins 2 0 (8 ∷ 3 ∷ []) (3 ∷ 8 ∷ []) lists.smaller refl (λ e. omega arith)

pub not-by_larger_number : Impostors.NotByLargerNumber
unfolding Impostors.by_larger_number
not-by_larger_number =
    misordered Impostors.by_larger_number Impostors.C1 0 0 (22 ∷ 42 ∷ 76 ∷ 112 ∷ []) (76 ∷ 42 ∷ 22 ∷ 112 ∷ []) lists.c2 refl (λ e. omega arith)
