-- A report tells the answer that gave it, so a contract that fixes the report fixes the answer.
-- The proof is that of proofs/Theorems.antt.
-- Assumes nothing.
use Rattle.std.specs.Prelude.{◌≡◌, ℕ, Result}
use Rattle.updater.specs.declared.UpdateError.{UpdateError}
use Rattle.updater.specs.Reports.{report}

abbrev pub UpdatedInjective : Type 0
UpdatedInjective = (a b : Result ℕ UpdateError) → report a ≡ report b → a ≡ b
