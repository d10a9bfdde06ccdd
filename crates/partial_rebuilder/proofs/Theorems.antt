-- A report tells the answer that gave it: the answer is computed back from its report.
-- Assumes nothing.
use mathlib.Core.Path.{◌≡◌, refl, sym, ap, ◌∙◌}
use Prim.Native.Nat.{ℕ}
use lib.Dec.{eqb}
use lib.ListN.{get_or}
use Rattle.std.specs.Prelude.{if◌then◌else◌, Result, Ok, Err}
use Rattle.flat.specs.Faults.{Report}
use Rattle.card.proofs.Theorems.{carried, carried-back}
use Rattle.restorer.specs.declared.StripeFault.TheVariants.{StripLength, OutsideSet, StripeLength}
use Rattle.partial_rebuilder.specs.declared.PartialError.{PartialError}
use Rattle.partial_rebuilder.specs.declared.PartialError.TheVariants.{Card, Stripe, Inconsistent}
use Rattle.partial_rebuilder.specs.Reports.{report}
use Rattle.partial_rebuilder.specs.Theorems.{PartlyRebuiltInjective}

abbrev rebuilt_from : Report → Result ℕ PartialError
rebuilt_from r =
    carried r (λ f. Err (Card f))
    (if eqb r.number 6 then Err (Stripe StripLength) else
    if eqb r.number 7 then Err (Stripe StripeLength) else
    if eqb r.number 8 then Err (Stripe OutsideSet) else
    if eqb r.number 12 then Err Inconsistent else
    Ok (get_or r.values 0 0))

rebuilt-back : (a : Result ℕ PartialError) → rebuilt_from (report a) ≡ a
rebuilt-back (Ok U) = refl
rebuilt-back (Err (Card f)) = carried-back f (λ g. Err (Card g)) _
rebuilt-back (Err (Stripe StripLength)) = refl
rebuilt-back (Err (Stripe OutsideSet)) = refl
rebuilt-back (Err (Stripe StripeLength)) = refl
rebuilt-back (Err Inconsistent) = refl

pub partly_rebuilt_injective : PartlyRebuiltInjective
partly_rebuilt_injective a b e = sym (rebuilt-back a) ∙ ap rebuilt_from e ∙ rebuilt-back b
