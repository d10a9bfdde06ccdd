-- The documents' number for each case of the answer of this crate.
-- Assumes nothing.
use Rattle.std.specs.Prelude.{[], Result, Ok, Err}
use Rattle.flat.specs.Faults.{Report, accepted, refused}
use Rattle.stepped_card.specs.declared.SteppedFault.{SteppedFault}
use Rattle.stepped_card.specs.declared.SteppedFault.TheVariants as fault

-- what is refused
abbrev pub fault_report : SteppedFault → Report
fault_report fault.DataCount = refused 2 []
fault_report fault.ParityCount = refused 3 []
fault_report fault.Distance = refused 20 []
fault_report fault.Bounds = refused 21 []
fault_report fault.Buffer = refused 7 []

-- the stepped card
abbrev pub report : Result (Unit {0}) SteppedFault → Report
report (Ok _) = accepted []
report (Err f) = fault_report f
