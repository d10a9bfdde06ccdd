-- The documents' number and values for each case of the answer of this crate.
-- Assumes nothing.
use Rattle.std.specs.Prelude.{[], ◌∷◌, ℕ, Result, Ok, Err}
use Rattle.flat.specs.Faults.{Report, accepted, refused}
use Rattle.card.specs.Reports.{fault_report}
use Rattle.tray.specs.declared.Repaired.{Repaired}
use Rattle.tray.specs.declared.TrayError.{TrayError}
use Rattle.tray.specs.declared.TrayError.TheVariants as error

-- why nothing was repaired
abbrev pub error_report : TrayError → Report
error_report (error.Card f) = fault_report f
error_report error.StripLength = refused 6 []
error_report error.StripeCount = refused 17 []
error_report error.OutsideSet = refused 8 []
error_report error.TrayLength = refused 7 []

-- quick repair: how many steps were made, or why none
abbrev pub report : Result ℕ TrayError → Report
report (Ok n) = accepted (n ∷ [])
report (Err e) = error_report e

-- what is reported of a repaired tray: its steps. What is left of each set stands beside the report.
abbrev pub answer : Result Repaired TrayError → Result ℕ TrayError
answer (Ok repaired) = Ok repaired.steps
answer (Err e) = Err e
