-- `text::pen::Pen::put_line` meets its contract: the word, the numbers and the line end, one after the other.
-- Assumes nothing.
use mathlib.Core.List.{◌++◌}
use Rattle.flat.specs.Lists.{each}
use Rattle.text.specs.Decimal.{spaced}
use Rattle.text.specs.Lines.{line_end, line}
use Rattle.text.proofs.Pens.{wrote_then, front, behind}
use Rattle.text.proofs.pen.Pen.put_line.Goals as goal

pub put-requires : goal.put-requires
unfolding line
put-requires c =
    let a = c.args in
    let numbers = each spaced a.numbers.now in
    front a.word.now numbers c.args.self.now (front (a.word.now ++ numbers) line_end c.args.self.now c.requires)

pub put_numbers-requires : goal.put_numbers-requires
unfolding line
put_numbers-requires c =
    let a = c.args in
    let numbers = each spaced a.numbers.now in
    behind numbers c.put.ensures (front (a.word.now ++ numbers) line_end c.args.self.now c.requires)

pub put-requires-2 : goal.put-requires-2
unfolding line
put-requires-2 c = behind line_end (wrote_then c.put.ensures c.put_numbers.ensures) c.requires

pub returns : goal.returns
unfolding line
returns c = wrote_then (wrote_then c.put.ensures c.put_numbers.ensures) c.put-2.ensures
