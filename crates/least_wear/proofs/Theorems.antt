-- A report tells the answer that gave it: the answer is computed back from its report.
-- Assumes nothing.
use mathlib.Core.Path.{◌≡◌, refl, sym, ap, ◌∙◌}
use Prim.Native.Nat.{ℕ}
use lib.Dec.{eqb}
use lib.ListN.{get_or}
use Rattle.std.specs.Prelude.{if◌then◌else◌, Result, Ok, Err}
use Rattle.flat.specs.Faults.{Report}
use Rattle.card.proofs.Theorems.{carried, carried-back}
use Rattle.least_wear.specs.declared.LeastWearError.{LeastWearError}
use Rattle.least_wear.specs.declared.LeastWearError.TheVariants.{Card, OutsideSet, NoDisk, NoneSurvives}
use Rattle.least_wear.specs.Reports.{report}
use Rattle.least_wear.specs.Theorems.{LeastInjective}

abbrev least_from : Report → Result ℕ LeastWearError
least_from r =
    carried r (λ f. Err (Card f))
    (if eqb r.number 8 then Err OutsideSet else
    if eqb r.number 9 then Err NoDisk else
    if eqb r.number 11 then Err NoneSurvives else
    Ok (get_or r.values 0 0))

least_back : (a : Result ℕ LeastWearError) → least_from (report a) ≡ a
least_back (Ok E) = refl
least_back (Err (Card f)) = carried-back f (λ g. Err (Card g)) _
least_back (Err OutsideSet) = refl
least_back (Err NoDisk) = refl
least_back (Err NoneSurvives) = refl

pub least_injective : LeastInjective
least_injective a b e = sym (least_back a) ∙ ap least_from e ∙ least_back b
