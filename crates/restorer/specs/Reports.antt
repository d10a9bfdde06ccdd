-- The documents' number for each case of the tests' answer, and what follows where all passed.
-- Assumes nothing.
use Rattle.std.specs.Prelude.{[], Result, Ok, Err}
use Rattle.flat.specs.Faults.{Report, refused}
use Rattle.restorer.specs.declared.StripeFault.{StripeFault}
use Rattle.restorer.specs.declared.StripeFault.TheVariants as fault

abbrev pub fault_report : StripeFault → Report
fault_report fault.StripLength = refused 6 []
fault_report fault.OutsideSet = refused 8 []
fault_report fault.StripeLength = refused 7 []

abbrev pub report_before : Result (Unit {0}) StripeFault → Report → Report
report_before (Ok _) next = next
report_before (Err f) next = fault_report f
