-- Document 01's number and values for each case of the answer on two cards.
-- Assumes nothing.
use Rattle.std.specs.Prelude.{Bool, true, false, [], ◌∷◌, Result, Ok, Err}
use Rattle.flat.specs.Faults.{Report, accepted}
use Rattle.card.specs.declared.CardFault.{CardFault}
use Rattle.card.specs.Reports.{fault_report}

-- alike or not, or the fault of the first card that has one
abbrev pub report : Result Bool CardFault → Report
report (Ok true) = accepted (1 ∷ [])
report (Ok false) = accepted (0 ∷ [])
report (Err f) = fault_report f
