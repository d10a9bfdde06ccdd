-- Triangle::choose meets its contract. Assumes nothing.
use native.Mathlib.Omega.{arith}
use Rattle.stepped_sets.proofs.Rows.{counted}
use Rattle.stepped_sets.proofs.Triangle.choose.Goals as goal

pub returns : goal.returns
returns c = counted _ c.self.inside.last _ _ c.self.invariant.1 c.self.invariant.0 (omega arith) c.requires.1
