-- A report tells the answer that gave it, so a contract that fixes the report fixes the answer.
-- The proofs are those of proofs/Theorems.antt.
-- Assumes nothing.
use Rattle.std.specs.Prelude.{◌≡◌, Result}
use Rattle.stepped_card.specs.declared.SteppedFault.{SteppedFault}
use Rattle.stepped_card.specs.Reports.{report}

abbrev pub SteppedInjective : Type 0
SteppedInjective = (a b : Result (Unit {0}) SteppedFault) → report a ≡ report b → a ≡ b
