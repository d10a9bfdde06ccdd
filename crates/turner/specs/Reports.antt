-- The documents' number and values for each case of the answer of this crate.
-- Assumes nothing.
use Rattle.std.specs.Prelude.{[], Result, Ok, Err}
use Rattle.flat.specs.Faults.{Report, accepted, refused}
use Rattle.card.specs.Reports.{fault_report}
use Rattle.turner.specs.declared.TurnError.{TurnError}
use Rattle.turner.specs.declared.TurnError.TheVariants.{Card, StripLength, BufferLength}

-- turn and turn back
abbrev pub report : Result (Unit {0}) TurnError → Report
report (Ok _) = accepted []
report (Err (Card f)) = fault_report f
report (Err StripLength) = refused 6 []
report (Err BufferLength) = refused 7 []
