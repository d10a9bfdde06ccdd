-- A report tells the answer that gave it, so a contract that fixes the report fixes the answer.
-- The proof is that of proofs/Theorems.antt.
-- Assumes nothing.
use Rattle.std.specs.Prelude.{◌≡◌, Result}
use Rattle.encoder.specs.declared.EncodeError.{EncodeError}
use Rattle.encoder.specs.Reports.{report}

abbrev pub EncodedInjective : Type 0
EncodedInjective = (a b : Result (Unit {0}) EncodeError) → report a ≡ report b → a ≡ b
