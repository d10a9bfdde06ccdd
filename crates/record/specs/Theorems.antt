-- A report tells the answer that gave it, so a contract that fixes the report fixes the answer.
-- The proofs are those of proofs/Theorems.antt.
-- Assumes nothing.
use Rattle.std.specs.Prelude.{◌≡◌, Result}
use Rattle.record.specs.declared.bodies.BodyError.{BodyError}
use Rattle.record.specs.Reports.{report}

abbrev pub ThereInjective : Type 0
ThereInjective = (a b : Result (Unit {0}) BodyError) → report a ≡ report b → a ≡ b
