-- Distance::try_from meets its contract. Assumes nothing.
use native.Mathlib.Omega.{arith}
use Rattle.stepped_sets.proofs.Finding.{other}
use Rattle.stepped_sets.proofs.DistanceTryFromUsize.try_from.Goals as goal

pub returns-in_default : goal.returns-in_default
returns-in_default c = other _ (λ e. omega arith) (λ e. omega arith)
