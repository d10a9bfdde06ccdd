-- The form that the code goes by to find a step. Nobody has to believe it: `NextFound` says that it is the rule's step.
-- Assumes nothing.
use Rattle.std.specs.Prelude.{◌≡◌, Bool, ◌&&◌, ◌||◌, ◌≢◌, ◌↔◌, List, ℕ, zero, suc, ◌^◌, ◌<◌, T, eqb, ltb, get_or, if◌then◌else◌}
use Rattle.gf2.specs.Sets.{size, ◌∩◌}
use Rattle.flat.specs.Cards.{Code}
use Rattle.flat.specs.Checks.{check}
use Rattle.peeling.specs.Peeling.{can_step, next_disk, next_check}

-- the lost members of a check that has only one, and the check; the empty set twice where there is none
pub record Found : Type 0 where
  pub set : ℕ
  pub word : ℕ

-- are a check's lost members c one disk, and lower than what was found?
unfoldable pub better : ℕ → ℕ → Bool
unfolding size
better c set = eqb (size c) 1 && (eqb set 0 || ltb c set)

-- in the first n of some checks: the lowest such disk, and the first of its checks
unfoldable pub found : List ℕ → ℕ → ℕ → Found
unfolding ◌∩◌ better
found ws S zero = record { set = 0; word = 0 }
found ws S (suc n) =
    if better (get_or ws n 0 ∩ S) (found ws S n).set then record { set = get_or ws n 0 ∩ S; word = get_or ws n 0 } else found ws S n

-- Of the code's checks it finds the step of the rule.
abbrev pub NextFound : Type 0
NextFound =
    (C : Code) (S : ℕ) (ws : List ℕ) → ((j : ℕ) → j < C.m → get_or ws j 0 ≡ check C j)
    → (T (can_step C S) ↔ ((found ws S C.m).set ≢ 0))
    × (T (can_step C S) → ((found ws S C.m).set ≡ 2 ^ next_disk C S) × ((found ws S C.m).word ≡ check C (next_check C S)))
