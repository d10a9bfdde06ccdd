-- The worked codes of document 01: antt computes the definitions at the table's constants. For C8, C9 and C10 see Stripes.
-- Assumes nothing.
use mathlib.Core.Path.{refl}
use Rattle.flat.specs.Lists.{member}
use Rattle.flat.specs.Cards.{card_bytes}
use Rattle.flat.specs.Erasures.{fatal, erasures, vector}
use Rattle.flat.specs.Equations.{equations}
use Rattle.flat.specs.Faults.{card_report, encode_stripe, erasures_report}
use Rattle.worked.specs.Worked.{Worked, AnyBytes}
use Rattle.worked.proofs.Stripes.{c8-answer, c8-stripe, c9, c10}

pub any-bytes : AnyBytes
unfolding encode_stripe card_bytes
any-bytes = record { parity = λ p q r. refl; lost = λ a b c. (c8-answer a b c, c8-stripe a b c) }

pub worked : Worked
unfolding erasures vector fatal member equations card_bytes encode_stripe card_report erasures_report
worked =
    record {
      c1 = record { list = refl; counts = refl; unlisted = ((refl, refl), tt) };
      c2 = refl;
      c3 = record { list = refl; counts = refl; unlisted = ((refl, refl), tt) };
      c4 = record { list = refl; counts = refl; unlisted = tt };
      c5 = record { list = refl; counts = refl; unlisted = tt };
      c6 = record { list = refl; counts = refl; unlisted = tt };
      c7 = refl;
      c8 = record { answer = c8-answer 0 0 0; stripe = c8-stripe 0 0 0 };
      c9 = c9;
      c10 = c10;
      c11 = (refl, (refl, tt));
      c12 = (refl, (refl, tt));
    }
