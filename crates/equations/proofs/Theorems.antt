-- A report tells the answer that gave it: the answer is computed back from its report.
-- Assumes nothing.
use mathlib.Core.Path.{◌≡◌, refl, sym, ap, ◌∙◌}
use Prim.Native.Nat.{ℕ}
use lib.Dec.{eqb}
use lib.ListN.{get_or}
use Rattle.std.specs.Prelude.{if◌then◌else◌, Result, Ok, Err}
use Rattle.flat.specs.Faults.{Report}
use Rattle.card.proofs.Theorems.{carried, carried-back}
use Rattle.equations.specs.declared.EquationsError.{EquationsError}
use Rattle.equations.specs.declared.EquationsError.TheVariants.{Card, NoDisk, Short}
use Rattle.equations.specs.Reports.{report}
use Rattle.equations.specs.Theorems.{ToldInjective}

abbrev told_from : Report → Result ℕ EquationsError
told_from r =
    carried r (λ f. Err (Card f))
    (if eqb r.number 9 then Err NoDisk else
    if eqb r.number 10 then Err (Short (get_or r.values 0 0)) else
    Ok (get_or r.values 0 0))

told_back : (a : Result ℕ EquationsError) → told_from (report a) ≡ a
told_back (Ok n) = refl
told_back (Err (Card f)) = carried-back f (λ g. Err (Card g)) _
told_back (Err NoDisk) = refl
told_back (Err (Short n)) = refl

pub told-injective : ToldInjective
told-injective a b e = sym (told_back a) ∙ ap told_from e ∙ told_back b
