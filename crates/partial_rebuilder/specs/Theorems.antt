-- A report tells the answer that gave it, so a contract that fixes the report fixes the answer.
-- The proof is that of proofs/Theorems.antt.
-- Assumes nothing.
use Rattle.std.specs.Prelude.{◌≡◌, ℕ, Result}
use Rattle.partial_rebuilder.specs.declared.PartialError.{PartialError}
use Rattle.partial_rebuilder.specs.Reports.{report}

abbrev pub PartlyRebuiltInjective : Type 0
PartlyRebuiltInjective = (a b : Result ℕ PartialError) → report a ≡ report b → a ≡ b
