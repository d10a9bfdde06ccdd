-- A report tells the answer that gave it: the answer is computed back from its report.
-- Assumes nothing.
use mathlib.Core.Path.{◌≡◌, refl, sym, ap, ◌∙◌}
use Prim.Native.Nat.{ℕ}
use lib.Dec.{eqb}
use lib.ListN.{get_or}
use Rattle.std.specs.Prelude.{if◌then◌else◌, Result, Ok, Err}
use Rattle.flat.specs.Faults.{Report}
use Rattle.card.proofs.Theorems.{carried, carried-back}
use Rattle.updater.specs.declared.UpdateError.{UpdateError}
use Rattle.updater.specs.declared.UpdateError.TheVariants as error
use Rattle.updater.specs.Reports.{report}
use Rattle.updater.specs.Theorems.{UpdatedInjective}

abbrev updated_from : Report → Result ℕ UpdateError
updated_from r =
    carried r (λ f. Err (error.Card f))
    (if eqb r.number 6 then Err error.StripLength else
    if eqb r.number 9 then Err error.NoDisk else
    if eqb r.number 18 then Err error.ParityDisk else
    if eqb r.number 7 then Err error.StripeLength else
    if eqb r.number 19 then Err error.NewLength else
    Ok (get_or r.values 0 0))

updated-back : (a : Result ℕ UpdateError) → updated_from (report a) ≡ a
updated-back (Ok n) = refl
updated-back (Err (error.Card f)) = carried-back f (λ g. Err (error.Card g)) _
updated-back (Err error.StripLength) = refl
updated-back (Err error.NoDisk) = refl
updated-back (Err error.ParityDisk) = refl
updated-back (Err error.StripeLength) = refl
updated-back (Err error.NewLength) = refl

pub updated_injective : UpdatedInjective
updated_injective a b e = sym (updated-back a) ∙ ap updated_from e ∙ updated-back b
