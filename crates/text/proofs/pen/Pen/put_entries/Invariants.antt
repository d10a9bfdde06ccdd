-- `text::pen::Pen::put_entries` meets its contract: after i turns the first i pieces are put.
-- Assumes nothing.
use Rattle.text.specs.Lines.{entry_line}
use Rattle.text.proofs.Pens.{Drawn}
use Rattle.text.proofs.pen.Pen.put_entries.Given as goal

abbrev pub invariant-loop-set : goal.invariant-loop-set
invariant-loop-set l = Drawn entry_line l.entries l.set-index l.initial.self l.self
