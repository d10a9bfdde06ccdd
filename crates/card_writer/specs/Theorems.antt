-- A report tells the answer that gave it, so a contract that fixes the report fixes the answer.
-- The proof is that of proofs/Theorems.antt.
-- Assumes nothing.
use Rattle.std.specs.Prelude.{◌≡◌, Result}
use Rattle.card_writer.specs.declared.CardWriteError.{CardWriteError}
use Rattle.card_writer.specs.Reports.{report}

abbrev pub WrittenInjective : Type 0
WrittenInjective = (a b : Result (Unit {0}) CardWriteError) → report a ≡ report b → a ≡ b
