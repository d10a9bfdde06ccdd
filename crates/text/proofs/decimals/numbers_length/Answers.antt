-- `text::decimals::numbers_length` meets its contract: after i turns the sum is the length of the first i pieces.
-- Assumes nothing.
use mathlib.Core.Path.{sym, ap}
use native.Mathlib.Omega.{arith}
use lib.ListN.{length, get_or}
use Rattle.text.specs.Decimal.{spaced}
use Rattle.text.proofs.Pieces.{each_none, length_more}
use Rattle.text.proofs.Digits.{length-spaced}
use Rattle.text.proofs.decimals.numbers_length.Goals as goal

pub loop-number-init : goal.loop-number-init
loop-number-init c = (ap length (sym (each_none spaced)), omega arith)

pub loop-number-preserved : goal.loop-number-preserved
loop-number-preserved c =
    let i = c.loop-number.number-index in
    let xs = c.args.numbers.now in
    let next = length_more spaced xs i c.loop-number-test.true in
    (omega (arith, next, length-spaced (get_or xs i 0)), omega arith)
