-- A report tells the answer that gave it, so a contract that fixes the report fixes the answer. The vector stands beside the report.
-- The proof is that of proofs/Theorems.antt.
-- Assumes nothing.
use Rattle.std.specs.Prelude.{◌≡◌, ℕ, Result}
use Rattle.erasures.specs.declared.ListError.{ListError}
use Rattle.erasures.specs.Reports.{report}

abbrev pub ListedInjective : Type 0
ListedInjective = (a b : Result ℕ ListError) → report a ≡ report b → a ≡ b
