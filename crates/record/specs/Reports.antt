-- Document 01's number and values for each case of the answer of the call beside the body call.
-- Assumes nothing.
use Rattle.std.specs.Prelude.{[], Result, Ok, Err}
use Rattle.flat.specs.Faults.{Report, accepted, refused}
use Rattle.record_reader.specs.Reports.{record_fault_report}
use Rattle.record.specs.declared.bodies.BodyPlace.{BodyPlace}
use Rattle.record.specs.declared.bodies.BodyError.{BodyError}
use Rattle.record.specs.declared.bodies.BodyError.TheVariants as error

-- why the strip is not there
abbrev pub error_report : BodyError → Report
error_report (error.Record f) = record_fault_report f
error_report error.NoDisk = refused 9 []
error_report error.Lost = refused 16 []

-- whether it is there
abbrev pub report : Result (Unit {0}) BodyError → Report
report (Ok _) = accepted []
report (Err e) = error_report e

-- what is reported of a place: that the strip is there. Where it stands has a clause beside the report.
abbrev pub there : Result BodyPlace BodyError → Result (Unit {0}) BodyError
there (Ok _) = Ok tt
there (Err e) = Err e
