-- A report as one number, for a caller in C: the report's number, and 256 times its value. A card's edition as a yes or no.
-- Assumes nothing.
use Rattle.std.specs.Prelude.{Bool, true, false, ℕ, ◌+◌, ◌*◌, ◌<◌, get_or}
use Rattle.flat.specs.declared.Edition.{Edition}
use Rattle.flat.specs.declared.Edition.TheVariants.{First, Second}
use Rattle.flat.specs.Faults.{Report, unless_refused}

-- the value that the report names, 0 where it names none
abbrev pub value : Report → ℕ
value r = get_or r.values 0 0

abbrev pub coded : Report → ℕ
coded r = r.number + 256 * value r

-- the same where the values of an accepted call go into arrays
unfoldable pub coded_fault : Report → ℕ
unfolding unless_refused
coded_fault r = unless_refused r 0 (coded r)

-- the report's number has 8 bits, and its value 32
pub record Fits (r : Report) : Type 0 where
  pub number_fits : r.number < 256
  pub value_fits : value r < 4294967296

-- the edition that a caller in C names: is it the second?
abbrev pub named : Bool → Edition
named true = Second
named false = First
