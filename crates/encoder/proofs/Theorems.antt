-- A report tells the answer that gave it: the answer is computed back from its report.
-- Assumes nothing.
use mathlib.Core.Path.{◌≡◌, refl, sym, ap, ◌∙◌}
use lib.Dec.{eqb}
use Rattle.std.specs.Prelude.{if◌then◌else◌, Result, Ok, Err}
use Rattle.flat.specs.Faults.{Report}
use Rattle.card.proofs.Theorems.{carried, carried-back}
use Rattle.encoder.specs.declared.EncodeError.{EncodeError}
use Rattle.encoder.specs.declared.EncodeError.TheVariants.{Card, StripLength, StripeLength}
use Rattle.encoder.specs.Reports.{report}
use Rattle.encoder.specs.Theorems.{EncodedInjective}

abbrev encoded_from : Report → Result (Unit {0}) EncodeError
encoded_from r =
    carried r (λ f. Err (Card f))
    (if eqb r.number 6 then Err StripLength else
    if eqb r.number 7 then Err StripeLength else
    Ok tt)

encoded-back : (a : Result (Unit {0}) EncodeError) → encoded_from (report a) ≡ a
encoded-back (Ok _) = refl
encoded-back (Err (Card f)) = carried-back f (λ g. Err (Card g)) _
encoded-back (Err StripLength) = refl
encoded-back (Err StripeLength) = refl

pub encoded_injective : EncodedInjective
encoded_injective a b e = sym (encoded-back a) ∙ ap encoded_from e ∙ encoded-back b
