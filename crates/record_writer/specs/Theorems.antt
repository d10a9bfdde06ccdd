-- A report tells the answer that gave it, so a contract that fixes the report fixes the answer.
-- The proofs are those of proofs/Theorems.antt.
-- Assumes nothing.
use Rattle.std.specs.Prelude.{◌≡◌, ℕ, Result}
use Rattle.record_writer.specs.declared.RecordWriteError.{RecordWriteError}
use Rattle.record_writer.specs.Reports.{report}

abbrev pub WrittenInjective : Type 0
WrittenInjective = (a b : Result ℕ RecordWriteError) → report a ≡ report b → a ≡ b
