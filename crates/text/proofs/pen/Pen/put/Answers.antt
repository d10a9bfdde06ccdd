-- `text::pen::Pen::put` meets its contract. Assumes nothing.
use mathlib.Core.Path.{refl}
use Rattle.text.proofs.Pens.{put-part}
use Rattle.text.proofs.pen.Pen.put.Goals as goal

pub returns : goal.returns
returns c =
    record {
      same_buffer = refl;
      put = record { place = refl; bytes = put-part _ _ _ _ _ refl c.copy_from_slice.ensures.after c.requires };
    }
