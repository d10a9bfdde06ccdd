-- The documents' number and values for each case of the answer of this crate.
-- Assumes nothing.
use Rattle.std.specs.Prelude.{[], ◌∷◌, ℕ, Result, Ok, Err}
use Rattle.flat.specs.Faults.{Report, accepted, refused}
use Rattle.card.specs.Reports.{fault_report}
use Rattle.restorer.specs.Reports.{fault_report as stripe_fault_report}
use Rattle.rebuilder.specs.declared.RebuildError.{RebuildError}
use Rattle.rebuilder.specs.declared.RebuildError.TheVariants.{Card, Stripe, Fatal, Inconsistent}

-- the rebuilder: how many disks were lost, or why nothing was rebuilt
abbrev pub report : Result ℕ RebuildError → Report
report (Ok n) = accepted (n ∷ [])
report (Err (Card f)) = fault_report f
report (Err (Stripe f)) = stripe_fault_report f
report (Err Fatal) = refused 11 []
report (Err Inconsistent) = refused 12 []
