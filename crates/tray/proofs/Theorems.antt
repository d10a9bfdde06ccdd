-- A report tells the answer that gave it: each answer is computed back from its report.
-- Assumes nothing.
use mathlib.Core.Path.{◌≡◌, refl, sym, ap, ◌∙◌}
use Prim.Native.Nat.{ℕ}
use lib.Dec.{eqb}
use lib.ListN.{get_or}
use Rattle.std.specs.Prelude.{if◌then◌else◌, Result, Ok, Err}
use Rattle.flat.specs.Faults.{Report}
use Rattle.card.proofs.Theorems.{carried, carried-back}
use Rattle.tray.specs.declared.TrayError.{TrayError}
use Rattle.tray.specs.declared.TrayError.TheVariants as error
use Rattle.tray.specs.Reports.{report}
use Rattle.tray.specs.Theorems.{RepairedInjective}

abbrev repaired_from : Report → Result ℕ TrayError
repaired_from r =
    carried r (λ f. Err (error.Card f))
    (if eqb r.number 6 then Err error.StripLength else
    if eqb r.number 17 then Err error.StripeCount else
    if eqb r.number 8 then Err error.OutsideSet else
    if eqb r.number 7 then Err error.TrayLength else
    Ok (get_or r.values 0 0))

repaired-back : (a : Result ℕ TrayError) → repaired_from (report a) ≡ a
repaired-back (Ok n) = refl
repaired-back (Err (error.Card f)) = carried-back f (λ g. Err (error.Card g)) _
repaired-back (Err error.StripLength) = refl
repaired-back (Err error.StripeCount) = refl
repaired-back (Err error.OutsideSet) = refl
repaired-back (Err error.TrayLength) = refl

pub repaired_injective : RepairedInjective
repaired_injective a b e = sym (repaired-back a) ∙ ap repaired_from e ∙ repaired-back b
