-- `text::pen::Pen::put_decimal` meets its contract. Assumes nothing.
use mathlib.Core.Path.{refl}
use native.Mathlib.Omega.{arith}
use Rattle.text.proofs.Pens.{put-part}
use Rattle.text.proofs.pen.Pen.put_decimal.Goals as goal

pub returns : goal.returns
returns c =
    record {
      same_buffer = refl;
      put = record { place = omega arith; bytes = put-part _ _ _ _ _ c.decimal_length.ensures.value c.write_decimal.ensures c.requires };
    }
