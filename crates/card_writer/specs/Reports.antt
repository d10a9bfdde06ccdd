-- The documents' number and values for each case of the card writer's answer.
-- Assumes nothing.
use Rattle.std.specs.Prelude.{[], Result, Ok, Err}
use Rattle.flat.specs.Faults.{Report, accepted, refused}
use Rattle.card.specs.Reports.{fault_report}
use Rattle.card_writer.specs.declared.CardWriteError.{CardWriteError}
use Rattle.card_writer.specs.declared.CardWriteError.TheVariants.{Card, Buffer}

abbrev pub error_report : CardWriteError → Report
error_report (Card f) = fault_report f
error_report Buffer = refused 7 []

abbrev pub report : Result (Unit {0}) CardWriteError → Report
report (Ok _) = accepted []
report (Err e) = error_report e
