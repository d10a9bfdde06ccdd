-- Distance::step meets its contract. Assumes nothing.
use mathlib.Core.Path.{refl}
use Rattle.stepped_codes.specs.Stepped.{step}
use Rattle.stepped_sets.proofs.Distance.step.Goals as goal

pub returns-in-Three : goal.returns-in-Three
unfolding step
returns-in-Three c = rw c.in-Three.is refl

pub returns-in-Four : goal.returns-in-Four
unfolding step
returns-in-Four c = rw c.in-Four.is refl
