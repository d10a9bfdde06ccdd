-- A report tells the answer that gave it: the answer is computed back from its report.
-- Assumes nothing.
use mathlib.Core.Path.{◌≡◌, refl, sym, ap, ◌∙◌}
use lib.Dec.{eqb}
use Rattle.std.specs.Prelude.{if◌then◌else◌, Result, Ok, Err}
use Rattle.flat.specs.Faults.{Report}
use Rattle.stepped_card.specs.declared.SteppedFault.{SteppedFault}
use Rattle.stepped_card.specs.declared.SteppedFault.TheVariants as fault
use Rattle.stepped_card.specs.Reports.{report}
use Rattle.stepped_card.specs.Theorems.{SteppedInjective}

abbrev answer_of : Report → Result (Unit {0}) SteppedFault
answer_of r =
    if eqb r.number 0 then Ok tt else
    if eqb r.number 2 then Err fault.DataCount else
    if eqb r.number 3 then Err fault.ParityCount else
    if eqb r.number 20 then Err fault.Distance else
    if eqb r.number 21 then Err fault.Bounds else
    Err fault.Buffer

answer_back : (r : Result (Unit {0}) SteppedFault) → answer_of (report r) ≡ r
answer_back (Ok tt) = refl
answer_back (Err fault.DataCount) = refl
answer_back (Err fault.ParityCount) = refl
answer_back (Err fault.Distance) = refl
answer_back (Err fault.Bounds) = refl
answer_back (Err fault.Buffer) = refl

pub stepped_injective : SteppedInjective
stepped_injective a b e = sym (answer_back a) ∙ ap answer_of e ∙ answer_back b
