-- `record::bodies::body_place` meets its contract: a strip stands where the contents say.
-- Assumes nothing.
use mathlib.Core.Path.{sym, ◌∙◌}
use native.Mathlib.Omega.{arith}
use Rattle.record.proofs.Places.{no_disk, lost-disk, there-at}
use Rattle.record.proofs.bodies.body_place.Goals as goal

pub returns-then-disk-n-clause-value : goal.returns-then-disk-n-clause-value
returns-then-disk-n-clause-value c = no_disk _ _ _ _ _ c.in_ok-k.ensures.value _ (omega arith)

pub returns-then-has-clause-value : goal.returns-then-has-clause-value
returns-then-has-clause-value c = lost-disk _ _ _ _ _ c.in_ok-k.ensures.value _ (omega arith) (sym c.has.ensures ∙ c.if-has.true)

pub returns-clause-place : goal.returns-clause-place
returns-clause-place c =
    there-at _ _ _ _ _ c.in_ok-k.ensures.value _ _ _ (omega arith) (sym c.has.ensures ∙ c.if-has.false) c.strips_at-start.ensures.value c.body_at.ensures
