-- Document 02, request [1]: quick repair of one stripe, step by step. In the field's words, peeling.
-- A check of the code is a parity disk with its data disks (`check`, flat/specs/Checks.antt).
-- Assumes nothing.
use Rattle.std.specs.Prelude.{Bool, List, ℕ, zero, suc, ◌^◌, eqb, if◌then◌else◌}
use Rattle.gf2.specs.Sets.{◌∩◌, ◌∖◌}
use Rattle.flat.specs.Lists.{some}
use Rattle.flat.specs.Cards.{Code, disks}
use Rattle.flat.specs.Checks.{check}
use Rattle.repair_steps.specs.Steps.{xored}

-- ---- a step

-- is d the only lost member of check j?
unfoldable pub lone : Code → ℕ → ℕ → ℕ → Bool
unfolding check ◌∩◌
lone C S d j = eqb (check C j ∩ S) (2 ^ d)

-- is d the only lost member of some check?
unfoldable pub peelable : Code → ℕ → ℕ → Bool
unfolding some lone
peelable C S d = some C.m (lone C S d)

-- is there a step?
unfoldable pub can_step : Code → ℕ → Bool
unfolding some disks peelable
can_step C S = some (disks C) (peelable C S)

-- the lowest number below n that has p, or n where none has
unfoldable pub lowest_of : ℕ → (ℕ → Bool) → ℕ
lowest_of zero p = 0
lowest_of (suc n) p = if p 0 then 0 else suc (lowest_of n (λ i. p (suc i)))

-- the disk that a step takes, the lowest, and the check by which it restores it, the lowest
unfoldable pub next_disk : Code → ℕ → ℕ
unfolding lowest_of disks peelable
next_disk C S = lowest_of (disks C) (peelable C S)

unfoldable pub next_check : Code → ℕ → ℕ
unfolding lowest_of lone next_disk
next_check C S = lowest_of C.m (lone C S (next_disk C S))

-- what is left of the lost set after a step, and the stripe after it: the XOR of the check's other strips is written
unfoldable pub less_next : Code → ℕ → ℕ
unfolding ◌∖◌ next_disk
less_next C S = S ∖ 2 ^ next_disk C S

unfoldable pub with_next : Code → ℕ → ℕ → List ℕ → List ℕ
unfolding xored ◌∖◌ check next_disk next_check
with_next C L S stripe = xored C L (next_disk C S) (check C (next_check C S) ∖ 2 ^ next_disk C S) stripe

-- ---- one stripe

-- the steps made, what is left of the lost set, and the stripe
pub record Peeled : Type 0 where
  pub steps : ℕ
  pub left : ℕ
  pub stripe : List ℕ

abbrev pub rest : ℕ → List ℕ → Peeled
rest S stripe = record { steps = 0; left = S; stripe = stripe }

abbrev pub more : Peeled → Peeled
more r = record { steps = suc r.steps; left = r.left; stripe = r.stripe }

-- steps until it sticks or the budget is used up
unfoldable pub peeled : Code → ℕ → ℕ → ℕ → List ℕ → Peeled
unfolding can_step less_next with_next
peeled C L zero S stripe = rest S stripe
peeled C L (suc budget) S stripe =
    if can_step C S then more (peeled C L budget (less_next C S) (with_next C L S stripe)) else rest S stripe
