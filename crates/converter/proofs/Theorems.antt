-- A report tells the answer that gave it: the answer is computed back from its report.
-- Assumes nothing.
use mathlib.Core.Path.{◌≡◌, refl, sym, ap, ◌∙◌}
use lib.Dec.{eqb}
use Rattle.std.specs.Prelude.{if◌then◌else◌, Result, Ok, Err}
use Rattle.flat.specs.Faults.{Report}
use Rattle.card.proofs.Theorems.{carried, carried-back}
use Rattle.converter.specs.declared.ConvertError.{ConvertError}
use Rattle.converter.specs.declared.ConvertError.TheVariants.{Card, Buffer, Lossy}
use Rattle.converter.specs.Reports.{report}
use Rattle.converter.specs.Theorems.{ConvertedInjective}

abbrev converted_of : Report → Result (Unit {0}) ConvertError
converted_of r = carried r (λ f. Err (Card f)) (if eqb r.number 0 then Ok tt else if eqb r.number 7 then Err Buffer else Err Lossy)

converted_back : (r : Result (Unit {0}) ConvertError) → converted_of (report r) ≡ r
converted_back (Ok _) = refl
converted_back (Err (Card f)) = carried-back f (λ g. Err (Card g)) _
converted_back (Err Buffer) = refl
converted_back (Err Lossy) = refl

pub converted_injective : ConvertedInjective
converted_injective a b e = sym (converted_back a) ∙ ap converted_of e ∙ converted_back b
