-- `least_wear::Weights::rank` meets its contract. Assumes nothing.
use mathlib.Core.Path.{refl}
use Rattle.least_wear.specs.Forms.{rank_in}
use Rattle.least_wear.proofs.Weights.rank.Goals as goal

pub returns : goal.returns
unfolding rank_in
returns c = rw (← c.self.view_is) refl
