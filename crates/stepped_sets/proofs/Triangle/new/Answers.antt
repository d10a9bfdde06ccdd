-- Triangle::new meets its contract. Assumes nothing.
use native.Mathlib.Omega.{arith}
use Rattle.stepped_sets.proofs.Rows.{first-row}
use Rattle.stepped_sets.proofs.Triangle.new.Goals as goal

pub invariant_of-result : goal.invariant_of-result
invariant_of-result c = (omega arith, first-row)
