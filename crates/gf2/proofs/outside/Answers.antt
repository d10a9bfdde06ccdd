-- `gf2::outside` meets its contract, whose definition is what the code computes.
-- Assumes nothing.
use Rattle.gf2.specs.Sets.{◌∖◌}
use mathlib.Core.Path.{refl}
use Rattle.gf2.proofs.outside.Goals as goal

pub returns : goal.returns
unfolding ◌∖◌
returns c = refl
