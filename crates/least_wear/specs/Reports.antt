-- The documents' number and values for each case of the least-wear call's answer.
-- Assumes nothing.
use Rattle.std.specs.Prelude.{[], ◌∷◌, ℕ, Result, Ok, Err}
use Rattle.flat.specs.Faults.{Report, accepted, refused}
use Rattle.card.specs.Reports.{fault_report}
use Rattle.least_wear.specs.declared.LeastWearError.{LeastWearError}
use Rattle.least_wear.specs.declared.LeastWearError.TheVariants.{Card, OutsideSet, NoDisk, NoneSurvives}

abbrev pub error_report : LeastWearError → Report
error_report (Card f) = fault_report f
error_report OutsideSet = refused 8 []
error_report NoDisk = refused 9 []
error_report NoneSurvives = refused 11 []

-- the equation, or why none is answered
abbrev pub report : Result ℕ LeastWearError → Report
report (Ok E) = accepted (E ∷ [])
report (Err e) = error_report e
