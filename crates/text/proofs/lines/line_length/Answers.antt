-- `text::lines::line_length` meets its contract: the word, the numbers and the line end.
-- Assumes nothing.
use native.Mathlib.Omega.{arith}
use Rattle.text.proofs.Lengths.{length-line}
use Rattle.text.proofs.lines.line_length.Goals as goal

pub returns-clause-value : goal.returns-clause-value
returns-clause-value c = omega (arith, length-line c.args.word.now c.args.numbers.now)
