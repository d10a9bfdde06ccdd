-- Document 01's number and values for each case of the lister's answer.
-- Assumes nothing.
use Rattle.std.specs.Prelude.{[], ◌∷◌, ℕ, Result, Ok, Err}
use Rattle.flat.specs.Faults.{Report, accepted, refused}
use Rattle.card.specs.Reports.{fault_report}
use Rattle.erasures.specs.declared.Listing.{Listing}
use Rattle.erasures.specs.declared.ListError.{ListError}
use Rattle.erasures.specs.declared.ListError.TheVariants.{Card, Short}

-- how many entries, or why no list was written
abbrev pub report : Result ℕ ListError → Report
report (Ok count) = accepted (count ∷ [])
report (Err (Card f)) = fault_report f
report (Err (Short n)) = refused 10 (n ∷ [])

-- what is reported of a list that was written: its count. The vector stands beside the report.
abbrev pub counted : Result Listing ListError → Result ℕ ListError
counted (Ok listing) = Ok listing.count
counted (Err e) = Err e
