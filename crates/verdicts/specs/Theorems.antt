-- A report tells the answer that gave it, so a contract that fixes the report fixes the answer.
-- The proof is that of proofs/Theorems.antt.
-- Assumes nothing.
use Rattle.std.specs.Prelude.{◌≡◌, ℕ, Result}
use Rattle.verdicts.specs.declared.VerdictError.{VerdictError}
use Rattle.verdicts.specs.Reports.{report}

abbrev pub VerdictInjective : Type 0
VerdictInjective = (a b : Result ℕ VerdictError) → report a ≡ report b → a ≡ b
