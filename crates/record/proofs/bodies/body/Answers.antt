-- `record::bodies::body` meets its contract: the part is the file's own, and there is none where the strip is not there.
-- Assumes nothing.
use native.Mathlib.Omega.{arith}
use Rattle.record.proofs.Places.{taken_lent}
use Rattle.record.proofs.bodies.body.Goals as goal

pub returns : goal.returns
returns c = taken_lent _ _ _ _ c.unwrap_or-at.ensures c.body_place.ensures.value c.body_place.ensures.place _ (omega arith)
