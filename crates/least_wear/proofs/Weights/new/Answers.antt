-- `least_wear::Weights::new` meets its contract. Assumes nothing.
use Rattle.least_wear.proofs.Tables.{none_fits}
use Rattle.least_wear.proofs.Weights.new.Goals as goal

pub invariant_of-result : goal.invariant_of-result
invariant_of-result c = none_fits
