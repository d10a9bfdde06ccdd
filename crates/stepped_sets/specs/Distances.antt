-- The two distances as numbers.
-- Assumes nothing.
use Rattle.std.specs.Prelude.{◌≡◌, ℕ, false, Result, MatchResult}
use Rattle.stepped_codes.specs.Stepped.{distance_ok}
use Rattle.stepped_sets.specs.declared.Distance.{Distance}
use Rattle.stepped_sets.specs.declared.Distance.TheVariants.{Three, Four}
use Rattle.stepped_sets.specs.declared.OtherDistance.{OtherDistance}

abbrev pub number_of : Distance → ℕ
number_of Three = 3
number_of Four = 4

-- the result is the distance that is d, or an error where d is none
abbrev pub Names : ℕ → Result Distance OtherDistance → Type 0
Names d r = MatchResult r (λ distance. number_of distance ≡ d) (λ _. distance_ok d ≡ false)
