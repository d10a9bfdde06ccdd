-- Document 01's number and values for each case of the writer's answer.
-- Assumes nothing.
use Rattle.std.specs.Prelude.{[], ◌∷◌, ℕ, Result, Ok, Err}
use Rattle.flat.specs.Faults.{Report, accepted, refused}
use Rattle.card.specs.Reports.{fault_report}
use Rattle.record_writer.specs.declared.RecordWriteError.{RecordWriteError}
use Rattle.record_writer.specs.declared.RecordWriteError.TheVariants as error

-- why no record was written
abbrev pub error_report : RecordWriteError → Report
error_report (error.Card f) = fault_report f
error_report error.StripLength = refused 6 []
error_report error.OutsideSet = refused 8 []
error_report error.StripeLength = refused 7 []
error_report error.Output = refused 16 []

-- the writer: the record's length, or why there is none
abbrev pub report : Result ℕ RecordWriteError → Report
report (Ok len) = accepted (len ∷ [])
report (Err e) = error_report e
