-- `text::pen::Pen::put_numbers` meets its contract: after i turns the first i pieces are put.
-- Assumes nothing.
use native.Mathlib.Omega.{arith}
use borrow.Author.Rules.{rules}
use Rattle.text.proofs.Pens.{drawn_none, drawn_room, drawn_more, drawn_all}
use Rattle.text.proofs.pen.Pen.put_numbers.Goals as goal

pub loop-number-init : goal.loop-number-init
loop-number-init c = drawn_none _ _ _

pub put_spaced-requires : goal.put_spaced-requires
put_spaced-requires c = drawn_room c.loop-number.invariant (search rules) c.requires

pub loop-number-preserved : goal.loop-number-preserved
loop-number-preserved c = drawn_more c.loop-number.invariant (search rules) c.put_spaced.ensures

pub returns : goal.returns
returns c = drawn_all c.loop-number.invariant (omega arith)
