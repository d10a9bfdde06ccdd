-- The documents' number and values for each case of the verdict call's answer.
-- Assumes nothing.
use Rattle.std.specs.Prelude.{[], ◌∷◌, ℕ, Result, Ok, Err}
use Rattle.flat.specs.Faults.{Report, accepted, refused}
use Rattle.card.specs.Reports.{fault_report}
use Rattle.verdicts.specs.declared.VerdictError.{VerdictError}
use Rattle.verdicts.specs.declared.VerdictError.TheVariants.{Card, OutsideSet}

-- the undetermined disks, or why there is no verdict
abbrev pub report : Result ℕ VerdictError → Report
report (Ok U) = accepted (U ∷ [])
report (Err (Card f)) = fault_report f
report (Err OutsideSet) = refused 8 []
