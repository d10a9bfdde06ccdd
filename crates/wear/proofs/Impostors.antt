-- Each wrong answer is told from the true one: antt computes them, and the record refuses them.
-- Assumes nothing.
use mathlib.Core.Path.{◌≡◌, refl, sym, ap, ◌∙◌, subst}
use mathlib.Core.List.{List, [], ◌∷◌}
use Prim.Native.Nat.{ℕ, zero, suc, ◌^◌, ◌<◌}
use native.Mathlib.Omega.{arith}
use lib.Dec.{T}
use lib.ListN.{get_or}
use Rattle.gf2.specs.Sets.{◌⊆◌}
use Rattle.gf2.proofs.Subsets.{power_in}
use Rattle.flat.specs.Lists.{member}
use Rattle.flat.specs.Erasures.{survivors, fatal}
use Rattle.flat.specs.Equations.{equation, equations}
use Rattle.flat.proofs.Members.{In}
use Rattle.flat.proofs.Duality.{equation_out}
use Rattle.wear.specs.Wear.{total_wear, lost_with, least_wear_tests, least_wear_report}
use Rattle.wear.specs.Impostors as Impostors
use Rattle.wear.specs.Impostors.{pair, worn, tied}
use Rattle.wear.proofs.Left.{listed-equation}
use Rattle.wear.proofs.Least.{least_in}

pub values : Impostors.Values
unfolding least_wear_tests equations fatal
values =
    record {
      list = refl;
      least = refl;
      first = refl;
      named = refl;
      fatal_set = refl;
      left = refl;
      none = refl;
      set_first = refl;
      disk_next = refl;
    }

pub called : Impostors.Called
unfolding least_wear_report
called = record { own_wears = refl; ones = refl; lost = refl; none = refl; card_first = refl }

pub wrong_values : Impostors.WrongValues
unfolding Impostors.by_size Impostors.by_neighbour Impostors.by_last_lem Impostors.by_itself_lem
wrong_values = record { by_size_lem = refl; by_neighbour_lem = refl; by_last = refl; by_itself = refl }

-- each set's total
totals : (total_wear pair worn 8 ≡ 9) × (total_wear pair worn 6 ≡ 2) × (total_wear pair tied 8 ≡ 2) × (total_wear pair tied 6 ≡ 2)
unfolding total_wear
totals = (refl, refl, refl, refl)

-- the list, and what stands at a place of it
both : In 6 (8 ∷ 6 ∷ [])
unfolding member
both = tt

second : (i : ℕ) → ◌≡◌ {A = ℕ} (get_or (8 ∷ 6 ∷ []) i 0) 6 → 0 < i
second zero e = absurd (omega arith)
second (suc i) e = omega arith

at_place : (i : ℕ) → get_or (equations pair 0) i 0 ≡ get_or (8 ∷ 6 ∷ []) i 0
at_place i = ap (λ (l : List ℕ). get_or l i 0) values.list

pub values-refused : Impostors.ValuesRefused
values-refused = (
  λ S t g. omega (arith, g.listed 6 (subst (In 6) (sym values.list) both) t, totals.0, totals.1),
  λ S t g. let l = second g.place (sym (at_place g.place) ∙ g.is) in
      let u = subst (λ (E : ℕ). T (E ⊆ survivors pair (lost_with S 0))) (sym (at_place 0)) t in
      omega (arith, g.earlier 0 l u, ap (total_wear pair tied) (at_place 0), totals.2, totals.3),
  λ C ws d S g. (equation_out C d (2 ^ d) (listed-equation C d (2 ^ d) (least_in C ws d S (2 ^ d) g)).1).0 (power_in d),
)

pub not_if_fatal : Impostors.NotIfFatal
unfolding Impostors.if_fatal survivors lost_with equation
not_if_fatal f = (f pair worn 0 6 tt (omega arith)).none.0 refl (8, tt, tt)
