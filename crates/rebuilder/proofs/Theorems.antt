-- A report tells the answer that gave it: each answer is computed back from its report.
-- Assumes nothing.
use mathlib.Core.Path.{◌≡◌, refl, sym, ap, ◌∙◌}
use Prim.Native.Nat.{ℕ}
use lib.Dec.{eqb}
use lib.ListN.{get_or}
use Rattle.std.specs.Prelude.{if◌then◌else◌, Result, Ok, Err}
use Rattle.flat.specs.Faults.{Report}
use Rattle.card.proofs.Theorems.{carried, carried-back}
use Rattle.restorer.specs.declared.StripeFault.TheVariants.{StripLength, OutsideSet, StripeLength}
use Rattle.rebuilder.specs.declared.RebuildError.{RebuildError}
use Rattle.rebuilder.specs.declared.RebuildError.TheVariants.{Card, Stripe, Fatal, Inconsistent}
use Rattle.rebuilder.specs.Reports.{report}
use Rattle.rebuilder.specs.Theorems.{RebuiltInjective}

abbrev rebuilt_from : Report → Result ℕ RebuildError
rebuilt_from r =
    carried r (λ f. Err (Card f))
    (if eqb r.number 6 then Err (Stripe StripLength) else
    if eqb r.number 7 then Err (Stripe StripeLength) else
    if eqb r.number 8 then Err (Stripe OutsideSet) else
    if eqb r.number 11 then Err Fatal else
    if eqb r.number 12 then Err Inconsistent else
    Ok (get_or r.values 0 0))

rebuilt-back : (a : Result ℕ RebuildError) → rebuilt_from (report a) ≡ a
rebuilt-back (Ok n) = refl
rebuilt-back (Err (Card f)) = carried-back f (λ g. Err (Card g)) _
rebuilt-back (Err (Stripe StripLength)) = refl
rebuilt-back (Err (Stripe OutsideSet)) = refl
rebuilt-back (Err (Stripe StripeLength)) = refl
rebuilt-back (Err Fatal) = refl
rebuilt-back (Err Inconsistent) = refl

pub rebuilt_injective : RebuiltInjective
rebuilt_injective a b e = sym (rebuilt-back a) ∙ ap rebuilt_from e ∙ rebuilt-back b
