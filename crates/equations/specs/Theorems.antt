-- A report tells the answer that gave it, so a contract that fixes the report fixes the answer.
-- The proof is that of proofs/Theorems.antt.
-- Assumes nothing.
use Rattle.std.specs.Prelude.{◌≡◌, ℕ, Result}
use Rattle.equations.specs.declared.EquationsError.{EquationsError}
use Rattle.equations.specs.Reports.{report}

abbrev pub ToldInjective : Type 0
ToldInjective = (a b : Result ℕ EquationsError) → report a ≡ report b → a ≡ b
