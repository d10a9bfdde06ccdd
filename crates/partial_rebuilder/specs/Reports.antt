-- The documents' number and values for each case of the answer of this crate.
-- Assumes nothing.
use Rattle.std.specs.Prelude.{[], ◌∷◌, ℕ, Result, Ok, Err}
use Rattle.flat.specs.Faults.{Report, accepted, refused}
use Rattle.card.specs.Reports.{fault_report}
use Rattle.restorer.specs.Reports.{fault_report as stripe_fault_report}
use Rattle.partial_rebuilder.specs.declared.PartialError.{PartialError}
use Rattle.partial_rebuilder.specs.declared.PartialError.TheVariants.{Card, Stripe, Inconsistent}

-- the lost disks that the survivors don't determine, or why nothing was rebuilt
abbrev pub report : Result ℕ PartialError → Report
report (Ok U) = accepted (U ∷ [])
report (Err (Card f)) = fault_report f
report (Err (Stripe f)) = stripe_fault_report f
report (Err Inconsistent) = refused 12 []
