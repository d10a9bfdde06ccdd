-- Document 01's number and values for each case of the encoder's answer.
-- Assumes nothing.
use Rattle.std.specs.Prelude.{[], Result, Ok, Err}
use Rattle.flat.specs.Faults.{Report, accepted, refused}
use Rattle.card.specs.Reports.{fault_report}
use Rattle.encoder.specs.declared.EncodeError.{EncodeError}
use Rattle.encoder.specs.declared.EncodeError.TheVariants.{Card, StripLength, StripeLength}

abbrev pub error_report : EncodeError → Report
error_report (Card f) = fault_report f
error_report StripLength = refused 6 []
error_report StripeLength = refused 7 []

abbrev pub report : Result (Unit {0}) EncodeError → Report
report (Ok _) = accepted []
report (Err e) = error_report e
