-- A report tells the answer that gave it, so a contract that fixes the report fixes the answer.
-- The proof is that of proofs/Theorems.antt.
-- Assumes nothing.
use Rattle.std.specs.Prelude.{◌≡◌, ℕ, Result}
use Rattle.least_wear.specs.declared.LeastWearError.{LeastWearError}
use Rattle.least_wear.specs.Reports.{report}

abbrev pub LeastInjective : Type 0
LeastInjective = (a b : Result ℕ LeastWearError) → report a ≡ report b → a ≡ b
