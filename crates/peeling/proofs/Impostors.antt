-- The wrong rules computed beside the request's.
-- Assumes nothing.
use mathlib.Core.Path.{refl}
use Rattle.peeling.specs.Peeling.{less_next, with_next}
use Rattle.peeling.specs.Impostors.{by_highest, less_highest, LowestCheck, LowestDisk}

pub lowest-check : LowestCheck
unfolding with_next by_highest
lowest-check = (refl, refl)

pub lowest-disk : LowestDisk
unfolding less_next less_highest
lowest-disk = (refl, refl)
