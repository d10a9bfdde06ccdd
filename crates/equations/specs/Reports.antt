-- Document 01's number and values for each case of the equation call's answer.
-- Assumes nothing.
use Rattle.std.specs.Prelude.{[], ◌∷◌, ℕ, Result, Ok, Err}
use Rattle.flat.specs.Faults.{Report, accepted, refused}
use Rattle.card.specs.Reports.{fault_report}
use Rattle.equations.specs.declared.EquationsError.{EquationsError}
use Rattle.equations.specs.declared.EquationsError.TheVariants.{Card, NoDisk, Short}

-- how many equations, or why none were written
abbrev pub report : Result ℕ EquationsError → Report
report (Ok n) = accepted (n ∷ [])
report (Err (Card f)) = fault_report f
report (Err NoDisk) = refused 9 []
report (Err (Short n)) = refused 10 (n ∷ [])
