-- `text::pen::Pen::put_entries` meets its contract: after i turns the first i pieces are put.
-- Assumes nothing.
use native.Mathlib.Omega.{arith}
use borrow.Author.Rules.{rules}
use Rattle.text.proofs.Pens.{drawn_none, drawn_room, drawn_more, drawn_all}
use Rattle.text.proofs.pen.Pen.put_entries.Goals as goal

pub loop-set-init : goal.loop-set-init
loop-set-init c = drawn_none _ _ _

pub put_entry-requires : goal.put_entry-requires
put_entry-requires c = drawn_room c.loop-set.invariant (search rules) c.requires

pub loop-set-preserved : goal.loop-set-preserved
loop-set-preserved c = drawn_more c.loop-set.invariant (search rules) c.put_entry.ensures

pub returns : goal.returns
returns c = drawn_all c.loop-set.invariant (omega arith)
