-- A report tells the answer that gave it: the answer is computed back from its report.
-- Assumes nothing.
use mathlib.Core.Path.{◌≡◌, refl, sym, ap, ◌∙◌}
use Prim.Native.Nat.{ℕ}
use lib.Dec.{eqb}
use lib.ListN.{get_or}
use Rattle.std.specs.Prelude.{if◌then◌else◌, Result, Ok, Err}
use Rattle.flat.specs.Faults.{Report}
use Rattle.card.proofs.Theorems.{carried, carried-back}
use Rattle.verdicts.specs.declared.VerdictError.{VerdictError}
use Rattle.verdicts.specs.declared.VerdictError.TheVariants.{Card, OutsideSet}
use Rattle.verdicts.specs.Reports.{report}
use Rattle.verdicts.specs.Theorems.{VerdictInjective}

abbrev verdict_from : Report → Result ℕ VerdictError
verdict_from r =
    carried r (λ f. Err (Card f))
    (if eqb r.number 8 then Err OutsideSet else Ok (get_or r.values 0 0))

verdict-back : (a : Result ℕ VerdictError) → verdict_from (report a) ≡ a
verdict-back (Ok U) = refl
verdict-back (Err (Card f)) = carried-back f (λ g. Err (Card g)) _
verdict-back (Err OutsideSet) = refl

pub verdict_injective : VerdictInjective
verdict_injective a b e = sym (verdict-back a) ∙ ap verdict_from e ∙ verdict-back b
