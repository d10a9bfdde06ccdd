-- A report tells the answer that gave it: the answer is computed back from its report.
-- Assumes nothing.
use mathlib.Core.Path.{◌≡◌, refl, sym, ap, ◌∙◌}
use lib.Dec.{eqb}
use lib.ListN.{get_or}
use Rattle.std.specs.Prelude.{ℕ, Result, Ok, Err, if◌then◌else◌}
use Rattle.flat.specs.Faults.{Report}
use Rattle.card.proofs.Theorems.{carried, carried-back}
use Rattle.record_writer.specs.declared.RecordWriteError.{RecordWriteError}
use Rattle.record_writer.specs.declared.RecordWriteError.TheVariants as error
use Rattle.record_writer.specs.Reports.{report}
use Rattle.record_writer.specs.Theorems.{WrittenInjective}

abbrev answer_of : Report → Result ℕ RecordWriteError
answer_of r =
    carried r (λ f. Err (error.Card f))
    (if eqb r.number 6 then Err error.StripLength else
    if eqb r.number 7 then Err error.StripeLength else
    if eqb r.number 8 then Err error.OutsideSet else
    if eqb r.number 16 then Err error.Output else
    Ok (get_or r.values 0 0))

answer_back : (a : Result ℕ RecordWriteError) → answer_of (report a) ≡ a
answer_back (Ok len) = refl
answer_back (Err (error.Card f)) = carried-back f (λ g. Err (error.Card g)) _
answer_back (Err error.StripLength) = refl
answer_back (Err error.OutsideSet) = refl
answer_back (Err error.StripeLength) = refl
answer_back (Err error.Output) = refl

pub written_injective : WrittenInjective
written_injective a b e = sym (answer_back a) ∙ ap answer_of e ∙ answer_back b
