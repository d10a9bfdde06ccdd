-- A report tells the answer that gave it: the answer is computed back from its report.
-- Assumes nothing.
use mathlib.Core.Path.{◌≡◌, refl, sym, ap, ◌∙◌}
use Prim.Native.Nat.{ℕ}
use lib.Dec.{eqb}
use lib.ListN.{get_or}
use Rattle.std.specs.Prelude.{if◌then◌else◌, Result, Ok, Err}
use Rattle.flat.specs.Faults.{Report}
use Rattle.card.proofs.Theorems.{carried, carried-back}
use Rattle.erasures.specs.declared.ListError.{ListError}
use Rattle.erasures.specs.declared.ListError.TheVariants.{Card, Short}
use Rattle.erasures.specs.Reports.{report}
use Rattle.erasures.specs.Theorems.{ListedInjective}

abbrev listed_from : Report → Result ℕ ListError
listed_from r =
    carried r (λ f. Err (Card f))
    (if eqb r.number 10 then Err (Short (get_or r.values 0 0)) else Ok (get_or r.values 0 0))

listed_back : (a : Result ℕ ListError) → listed_from (report a) ≡ a
listed_back (Ok count) = refl
listed_back (Err (Card f)) = carried-back f (λ g. Err (Card g)) _
listed_back (Err (Short n)) = refl

pub listed_injective : ListedInjective
listed_injective a b e = sym (listed_back a) ∙ ap listed_from e ∙ listed_back b
