-- The documents' number and values for each case of the update's answer.
-- Assumes nothing.
use Rattle.std.specs.Prelude.{[], ◌∷◌, ℕ, Result, Ok, Err}
use Rattle.flat.specs.Faults.{Report, accepted, refused}
use Rattle.card.specs.Reports.{fault_report}
use Rattle.updater.specs.declared.UpdateError.{UpdateError}
use Rattle.updater.specs.declared.UpdateError.TheVariants as error

-- why nothing was rewritten
abbrev pub error_report : UpdateError → Report
error_report (error.Card f) = fault_report f
error_report error.StripLength = refused 6 []
error_report error.NoDisk = refused 9 []
error_report error.ParityDisk = refused 18 []
error_report error.StripeLength = refused 7 []
error_report error.NewLength = refused 19 []

-- the update: how many strips were rewritten, or why none
abbrev pub report : Result ℕ UpdateError → Report
report (Ok n) = accepted (n ∷ [])
report (Err e) = error_report e
