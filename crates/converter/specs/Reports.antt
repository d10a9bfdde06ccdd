-- The documents' number and values for each case of the converter's answer.
-- Assumes nothing.
use Rattle.std.specs.Prelude.{[], Result, Ok, Err}
use Rattle.flat.specs.Faults.{Report, accepted, refused}
use Rattle.card.specs.Reports.{fault_report}
use Rattle.converter.specs.declared.ConvertError.{ConvertError}
use Rattle.converter.specs.declared.ConvertError.TheVariants.{Card, Buffer, Lossy}

abbrev pub error_report : ConvertError → Report
error_report (Card f) = fault_report f
error_report Buffer = refused 7 []
error_report Lossy = refused 24 []

-- converted, or why not
abbrev pub report : Result (Unit {0}) ConvertError → Report
report (Ok _) = accepted []
report (Err e) = error_report e
