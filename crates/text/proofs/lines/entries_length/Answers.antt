-- `text::lines::entries_length` meets its contract: after i turns the sum is the length of the first i pieces.
-- Assumes nothing.
use mathlib.Core.Path.{sym, ap}
use native.Mathlib.Omega.{arith}
use lib.ListN.{length}
use Rattle.text.specs.Lines.{entry_line}
use Rattle.text.proofs.Pieces.{each_none, length_more}
use Rattle.text.proofs.lines.entries_length.Goals as goal

pub loop-set-init : goal.loop-set-init
loop-set-init c = (ap length (sym (each_none entry_line)), omega arith)

pub loop-set-preserved : goal.loop-set-preserved
loop-set-preserved c =
    let i = c.loop-set.set-index in
    let xs = c.args.entries.now in
    let next = length_more entry_line xs i c.loop-set-test.true in
    (omega (arith, next), omega arith)
