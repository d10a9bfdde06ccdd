-- `text::pen::Pen::put_spaced` meets its contract: a space, then the number.
-- Assumes nothing.
use mathlib.Core.List.{[], ◌∷◌}
use Rattle.text.specs.Decimal.{decimal, spaced}
use Rattle.text.proofs.Pens.{wrote_then, front, behind}
use Rattle.text.proofs.pen.Pen.put_spaced.Goals as goal

pub put-requires : goal.put-requires
unfolding spaced
put-requires c = front (0x20 ∷ []) (decimal c.args.n) c.args.self.now c.requires

pub put_decimal-requires : goal.put_decimal-requires
unfolding spaced
put_decimal-requires c = behind (decimal c.args.n) c.put.ensures c.requires

pub returns : goal.returns
unfolding spaced
returns c = wrote_then c.put.ensures c.put_decimal.ensures
