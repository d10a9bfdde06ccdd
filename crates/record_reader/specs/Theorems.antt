-- A report tells the answer that gave it, so a contract that fixes the report fixes the answer.
-- The proofs are those of proofs/Theorems.antt.
-- Assumes nothing.
use Rattle.std.specs.Prelude.{◌≡◌, Result}
use Rattle.record_reader.specs.declared.RecordFault.{RecordFault}
use Rattle.record_reader.specs.declared.RecordInfo.{RecordInfo}
use Rattle.record_reader.specs.Reports.{record_fault_report, report}

abbrev pub FaultInjective : Type 0
FaultInjective = (a b : RecordFault) → record_fault_report a ≡ record_fault_report b → a ≡ b

abbrev pub CheckInjective : Type 0
CheckInjective = (a b : Result RecordInfo RecordFault) → report a ≡ report b → a ≡ b
