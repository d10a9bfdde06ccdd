-- A report tells the answer that gave it: the answer is computed back from its report.
-- Assumes nothing.
use mathlib.Core.Path.{◌≡◌, refl, sym, ap, ◌∙◌}
use lib.Dec.{eqb}
use Rattle.std.specs.Prelude.{if◌then◌else◌, Result, Ok, Err}
use Rattle.flat.specs.Faults.{Report}
use Rattle.card.proofs.Theorems.{carried, carried-back}
use Rattle.card_writer.specs.declared.CardWriteError.{CardWriteError}
use Rattle.card_writer.specs.declared.CardWriteError.TheVariants.{Card, Buffer}
use Rattle.card_writer.specs.Reports.{report}
use Rattle.card_writer.specs.Theorems.{WrittenInjective}

abbrev written_of : Report → Result (Unit {0}) CardWriteError
written_of r = carried r (λ f. Err (Card f)) (if eqb r.number 0 then Ok tt else Err Buffer)

written_back : (r : Result (Unit {0}) CardWriteError) → written_of (report r) ≡ r
written_back (Ok _) = refl
written_back (Err (Card f)) = carried-back f (λ g. Err (Card g)) _
written_back (Err Buffer) = refl

pub written_injective : WrittenInjective
written_injective a b e = sym (written_back a) ∙ ap written_of e ∙ written_back b
