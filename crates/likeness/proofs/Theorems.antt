-- A report tells the answer that gave it: the answer is computed back from its report.
-- Assumes nothing.
use mathlib.Core.Path.{◌≡◌, refl, sym, ap, ◌∙◌}
use mathlib.Core.Bool.{Bool, true, false}
use lib.Dec.{eqb}
use lib.ListN.{get_or}
use Rattle.std.specs.Prelude.{Result, Ok, Err}
use Rattle.flat.specs.Faults.{Report}
use Rattle.card.specs.declared.CardFault.{CardFault}
use Rattle.card.proofs.Theorems.{carried, carried-back}
use Rattle.likeness.specs.Reports.{report}
use Rattle.likeness.specs.Theorems.{AlikeInjective}

abbrev answer_from : Report → Result Bool CardFault
answer_from r = carried r Err (Ok (eqb (get_or r.values 0 0) 1))

answer-back : (a : Result Bool CardFault) → answer_from (report a) ≡ a
answer-back (Ok true) = refl
answer-back (Ok false) = refl
answer-back (Err f) = carried-back f Err _

pub alike_injective : AlikeInjective
alike_injective a b e = sym (answer-back a) ∙ ap answer_from e ∙ answer-back b
