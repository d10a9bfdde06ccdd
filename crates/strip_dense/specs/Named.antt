-- How often sets name strips.
-- Assumes nothing.
use Rattle.std.specs.Prelude.{List, ℕ, zero, suc, ◌+◌, get_or, if◌then◌else◌}
use Rattle.gf2.specs.Sets.{has, size}

-- how many strips the sets of the targets below n name, each counted as often as it is named
unfoldable pub named : ℕ → List ℕ → ℕ → ℕ
unfolding has size
named targets sets zero = 0
named targets sets (suc d) = named targets sets d + (if has targets d then size (get_or sets d 0) else 0)
