-- The impostors of specs/Impostors.antt are told from the true definition: antt computes both.
-- Assumes nothing.
use mathlib.Core.Path.{◌≡◌, refl}
use mathlib.Core.List.{[], ◌∷◌}
use Prim.Native.Nat.{ℕ, zero, suc, ◌+◌, ◌-◌, ◌%◌, ◌<◌}
use native.Mathlib.Omega.{arith}
use Rattle.flat.specs.Cards.{code, column}
use Rattle.flat.specs.Alike.{alike}
use Rattle.flat.specs.Faults.{alike_report}
use Rattle.renumbering.specs.Renumbering.{renumbered}
use Rattle.renumbering.specs.Impostors.{with_counts, same_vectors, same_sets, same_sums, same_columns, NotByVectors, NotBySets, NotBySums, NotByPlaces, NotOne, NotInverse, Answers}

below_three : (P : ℕ → Type 0) (j : ℕ) → j < 3 → P 0 → P 1 → P 2 → P j
below_three P zero l a b c = a
below_three P (suc zero) l a b c = b
below_three P (suc (suc zero)) l a b c = c
below_three P (suc (suc (suc j))) l a b c = absurd (omega arith)

pub not-by-vectors : NotByVectors
unfolding with_counts same_vectors alike
not-by-vectors = (refl, refl)

pub not-by-sets : NotBySets
unfolding with_counts same_sets alike
not-by-sets = (refl, refl)

pub not-by-sums : NotBySums
unfolding with_counts same_sums alike
not-by-sums = (refl, refl)

pub not-by-places : NotByPlaces
unfolding with_counts same_columns alike
not-by-places = (refl, refl)

pub not-one : NotOne
unfolding column
not-one = (
  record {
    same_k = refl;
    same_m = refl;
    permutes = record { below = λ i l. omega arith; distinct = λ i j l m e. omega arith };
    carries = λ j l. below_three (λ (i : ℕ). i < 2 → column (code 1 2 (1 ∷ 1 ∷ [])) (1 - i) ≡ column (code 1 2 (1 ∷ 1 ∷ [])) i) j (omega arith) (λ _. refl) (λ _. refl)
        (λ h. absurd (omega arith)) l;
  },
  record { same_k = refl; same_m = refl; permutes = record { below = λ i l. l; distinct = λ i j l m e. e }; carries = λ j l. refl },
)

pub not_inverse : NotInverse
unfolding column renumbered
not_inverse = (
  record {
    same_k = refl;
    same_m = refl;
    permutes = record { below = λ i l. omega arith; distinct = λ i j l m e. omega arith };
    carries = λ j l. below_three (λ (i : ℕ). column (code 4 3 (13 ∷ 7 ∷ 11 ∷ [])) ((i + 1) % 3) ≡ column (code 4 3 (7 ∷ 11 ∷ 13 ∷ [])) i) j l refl refl refl;
  },
  refl,
  refl,
)

pub answers : Answers
unfolding alike_report
answers = (refl, refl)
