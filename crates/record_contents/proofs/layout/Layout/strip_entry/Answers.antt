-- `record_contents::layout::Layout::strip_entry` meets its contract. Assumes nothing.
use mathlib.Core.Path.{sym}
use Rattle.record_format.specs.Records.{strip_entry}
use Rattle.record_contents.proofs.layout.Layout.strip_entry.Goals as goal

pub returns-then-has : goal.returns-then-has
unfolding strip_entry
returns-then-has c = rw (sym c.has.ensures, c.if-has.true) (rw c.number.ensures at c.entry.ensures)

pub returns : goal.returns
unfolding strip_entry
returns c = rw (sym c.has.ensures, c.if-has.false, sym c.body_at.ensures) (rw c.number-2.ensures at c.entry-2.ensures)
