-- `gf2::size` meets its contract: the count of ones is the size.
-- Assumes nothing.
use mathlib.Core.Path.{refl}
use Rattle.gf2.specs.Sets.{size}
use Rattle.gf2.proofs.size.Goals as goal

pub returns : goal.returns
unfolding size
returns c = refl
