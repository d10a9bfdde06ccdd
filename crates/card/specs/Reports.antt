-- The documents' number and values for each case of the answers of this crate.
-- Assumes nothing.
use Rattle.std.specs.Prelude.{[], ◌∷◌, Result, Ok, Err}
use Rattle.flat.specs.Cards.{Code}
use Rattle.flat.specs.Faults.{Report, accepted, refused}
use Rattle.card.specs.declared.Counts.{Counts}
use Rattle.card.specs.declared.CardFault.{CardFault}
use Rattle.card.specs.declared.CardFault.TheVariants.{Short, FirstByte, DataCount, ParityCount, Length, Column, ZeroWear}

-- a card's fault
abbrev pub fault_report : CardFault → Report
fault_report Short = refused 1 []
fault_report FirstByte = refused 22 []
fault_report DataCount = refused 2 []
fault_report ParityCount = refused 3 []
fault_report Length = refused 4 []
fault_report (Column j) = refused 5 (j ∷ [])
fault_report ZeroWear = refused 23 []

-- the check: the counts of the code, or the card's fault
abbrev pub report : Result Code CardFault → Report
report (Ok code) = accepted (code.k ∷ code.m ∷ [])
report (Err f) = fault_report f

-- the counts alone, as `disk_counts` answers them, or the card's fault
abbrev pub counts_report : Result Counts CardFault → Report
counts_report (Ok counts) = accepted (counts.k ∷ counts.m ∷ [])
counts_report (Err f) = fault_report f
