-- A report tells the answer that gave it, so a contract that fixes the report fixes the answer.
-- The proofs are those of proofs/Theorems.antt.
-- Assumes nothing.
use Rattle.std.specs.Prelude.{◌≡◌, ℕ, Result}
use Rattle.rebuilder.specs.declared.RebuildError.{RebuildError}
use Rattle.rebuilder.specs.Reports.{report}

abbrev pub RebuiltInjective : Type 0
RebuiltInjective = (a b : Result ℕ RebuildError) → report a ≡ report b → a ≡ b
