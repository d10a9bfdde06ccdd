-- A report tells the answer that gave it, so a contract that fixes the report fixes the answer.
-- The proofs are those of proofs/Theorems.antt.
-- Assumes nothing.
use Rattle.std.specs.Prelude.{◌≡◌, Result}
use Rattle.turner.specs.declared.TurnError.{TurnError}
use Rattle.turner.specs.Reports.{report}

abbrev pub TurnedInjective : Type 0
TurnedInjective = (a b : Result (Unit {0}) TurnError) → report a ≡ report b → a ≡ b
