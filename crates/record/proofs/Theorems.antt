-- A report tells the answer that gave it: the answer is computed back from its report.
-- Assumes nothing.
use mathlib.Core.Path.{◌≡◌, refl, sym, ap, ◌∙◌}
use lib.Dec.{eqb}
use Rattle.std.specs.Prelude.{Result, Ok, Err, if◌then◌else◌}
use Rattle.flat.specs.Faults.{Report}
use Rattle.record_reader.proofs.Theorems.{sent, sent_back}
use Rattle.record.specs.declared.bodies.BodyError.{BodyError}
use Rattle.record.specs.declared.bodies.BodyError.TheVariants as error
use Rattle.record.specs.Reports.{report}
use Rattle.record.specs.Theorems.{ThereInjective}

abbrev answer_of : Report → Result (Unit {0}) BodyError
answer_of r =
    sent r (λ f. Err (error.Record f)) (if eqb r.number 9 then Err error.NoDisk else if eqb r.number 16 then Err error.Lost else Ok tt)

answer_back : (a : Result (Unit {0}) BodyError) → answer_of (report a) ≡ a
answer_back (Ok tt) = refl
answer_back (Err (error.Record f)) = sent_back f (λ g. Err (error.Record g)) _
answer_back (Err error.NoDisk) = refl
answer_back (Err error.Lost) = refl

pub there_injective : ThereInjective
there_injective a b e = sym (answer_back a) ∙ ap answer_of e ∙ answer_back b
