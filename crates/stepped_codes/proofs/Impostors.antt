-- Each wrong reading is told from the right one: antt computes both.
-- Assumes nothing.
use mathlib.Core.Path.{refl}
use Rattle.flat.specs.Lists.{range, filter}
use Rattle.flat.specs.Erasures.{fatal}
use Rattle.gf2.specs.Sets.{size}
use Rattle.stepped_codes.specs.Stepped.{parity_sets, within_bounds}
use Rattle.stepped_codes.specs.Faults.{stepped_report}
use Rattle.stepped_codes.specs.Impostors

pub lists : Impostors.Lists
unfolding parity_sets
lists = (refl, refl)

pub not-lexicographic : Impostors.NotLexicographic
unfolding Impostors.lexicographic parity_sets
not-lexicographic = (refl, refl)

pub not-by-number : Impostors.NotByNumber
unfolding Impostors.by_number
not-by-number = refl

pub not-by-one : Impostors.NotByOne
unfolding Impostors.by_one fatal size
not-by-one = (refl, refl, refl)

pub not-one-size : Impostors.NotOneSize
unfolding parity_sets filter range size
not-one-size = (refl, refl)

pub not-stopping : Impostors.NotStopping
unfolding Impostors.stopping within_bounds
not-stopping = (refl, refl)

pub distance_first : Impostors.DistanceFirst
unfolding stepped_report within_bounds
distance_first = (refl, refl)
