-- Document 01's number and values for each case of the reader's answers.
-- Assumes nothing.
use Rattle.std.specs.Prelude.{[], ◌∷◌, Result, Ok, Err}
use Rattle.flat.specs.Faults.{Report, accepted, refused}
use Rattle.card.specs.Reports.{fault_report}
use Rattle.record_reader.specs.declared.RecordFault.{RecordFault}
use Rattle.record_reader.specs.declared.RecordFault.TheVariants as fault
use Rattle.record_reader.specs.declared.RecordInfo.{RecordInfo}

-- a record's fault
abbrev pub record_fault_report : RecordFault → Report
record_fault_report fault.Mark = refused 13 []
record_fault_report fault.StripLength = refused 6 []
record_fault_report fault.Contents = refused 14 []
record_fault_report (fault.Card f) = fault_report f
record_fault_report fault.FileLength = refused 15 []

-- the reader's check
abbrev pub report : Result RecordInfo RecordFault → Report
report (Ok found) = accepted (found.k ∷ found.m ∷ found.l ∷ found.lost ∷ [])
report (Err f) = record_fault_report f
