-- A report tells the answer that gave it, so a contract that fixes the report fixes the answer.
-- The proof is that of proofs/Theorems.antt.
-- Assumes nothing.
use Rattle.std.specs.Prelude.{◌≡◌, ℕ, Result}
use Rattle.tray.specs.declared.TrayError.{TrayError}
use Rattle.tray.specs.Reports.{report}

abbrev pub RepairedInjective : Type 0
RepairedInjective = (a b : Result ℕ TrayError) → report a ≡ report b → a ≡ b
