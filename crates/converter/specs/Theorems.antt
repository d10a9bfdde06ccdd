-- A report tells the answer that gave it, so a contract that fixes the report fixes the answer.
-- The proof is that of proofs/Theorems.antt.
-- Assumes nothing.
use Rattle.std.specs.Prelude.{◌≡◌, Result}
use Rattle.converter.specs.declared.ConvertError.{ConvertError}
use Rattle.converter.specs.Reports.{report}

abbrev pub ConvertedInjective : Type 0
ConvertedInjective = (a b : Result (Unit {0}) ConvertError) → report a ≡ report b → a ≡ b
