-- `text::pen::Pen::put_numbers` meets its contract: after i turns the first i pieces are put.
-- Assumes nothing.
use Rattle.text.specs.Decimal.{spaced}
use Rattle.text.proofs.Pens.{Drawn}
use Rattle.text.proofs.pen.Pen.put_numbers.Given as goal

abbrev pub invariant-loop-number : goal.invariant-loop-number
invariant-loop-number l = Drawn spaced l.numbers l.number-index l.initial.self l.self
