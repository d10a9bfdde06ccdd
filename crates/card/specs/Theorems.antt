-- A report tells the answer that gave it, so a contract that fixes the report fixes the answer. Of a code it tells the counts: the contract of the check
-- fixes the report and says which code it is.
-- The proofs are those of proofs/Theorems.antt.
-- Assumes nothing.
use Rattle.std.specs.Prelude.{◌≡◌, Result, Err, MatchResult, IfOk, IsOkAnd}
use Rattle.flat.specs.Cards.{Code}
use Rattle.card.specs.declared.Counts.{Counts}
use Rattle.card.specs.declared.CardFault.{CardFault}
use Rattle.card.specs.Reports.{fault_report, report, counts_report}

abbrev pub FaultInjective : Type 0
FaultInjective = (a b : CardFault) → fault_report a ≡ fault_report b → a ≡ b

-- two answers of the check with one report are one fault, or codes with the same counts. Of one card they are one code: the check answers the
-- card's own (`code_of`).
abbrev pub CheckInjective : Type 0
CheckInjective = (a b : Result Code CardFault) → report a ≡ report b → MatchResult a (λ A. IsOkAnd b (λ B. (A.k ≡ B.k) × (A.m ≡ B.m))) (λ f. b ≡ Err f)

-- two answers of the check with one report, whose codes, where there are such, are one and the same, are one answer
abbrev pub CheckFixed : Type 0
CheckFixed = (C : Code) (a b : Result Code CardFault) → report a ≡ report b → IfOk a (λ A. A ≡ C) → IfOk b (λ B. B ≡ C) → a ≡ b

abbrev pub CountsInjective : Type 0
CountsInjective = (a b : Result Counts CardFault) → counts_report a ≡ counts_report b → a ≡ b
