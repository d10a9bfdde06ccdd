-- A report tells the answer that gave it, so a contract that fixes the report fixes the answer.
-- The proof is that of proofs/Theorems.antt.
-- Assumes nothing.
use Rattle.std.specs.Prelude.{◌≡◌, Bool, Result}
use Rattle.card.specs.declared.CardFault.{CardFault}
use Rattle.likeness.specs.Reports.{report}

abbrev pub AlikeInjective : Type 0
AlikeInjective = (a b : Result Bool CardFault) → report a ≡ report b → a ≡ b
