-- A report tells the answer that gave it: each answer is computed back from its report.
-- Assumes nothing.
use mathlib.Core.Path.{◌≡◌, refl, sym, ap, ◌∙◌}
use lib.Dec.{eqb}
use Rattle.std.specs.Prelude.{if◌then◌else◌, Result, Ok, Err}
use Rattle.flat.specs.Faults.{Report}
use Rattle.card.proofs.Theorems.{carried, carried-back}
use Rattle.turner.specs.declared.TurnError.{TurnError}
use Rattle.turner.specs.declared.TurnError.TheVariants.{Card, StripLength, BufferLength}
use Rattle.turner.specs.Reports.{report}
use Rattle.turner.specs.Theorems.{TurnedInjective}

abbrev turned_from : Report → Result (Unit {0}) TurnError
turned_from r =
    carried r (λ f. Err (Card f))
    (if eqb r.number 6 then Err StripLength else
    if eqb r.number 7 then Err BufferLength else
    Ok tt)

turned-back : (a : Result (Unit {0}) TurnError) → turned_from (report a) ≡ a
turned-back (Ok _) = refl
turned-back (Err (Card f)) = carried-back f (λ g. Err (Card g)) _
turned-back (Err StripLength) = refl
turned-back (Err BufferLength) = refl

pub turned_injective : TurnedInjective
turned_injective a b e = sym (turned-back a) ∙ ap turned_from e ∙ turned-back b
