-- `text::decimals::decimal_length` meets its contract: the power of ten at or below a number tells how many digits it has.
-- Assumes nothing.
use mathlib.Core.Path.{sym}
use native.Mathlib.Omega.{arith}
use Rattle.text.proofs.Digits.{length-short, length_power}
use Rattle.text.proofs.decimals.decimal_length.Goals as goal

pub returns-in-Some-clause-value : goal.returns-in-Some-clause-value
returns-in-Some-clause-value c =
    let p = c.in-Some.ensures in
    omega (arith, length_power c.in-Some.power c.args.n p.power_le p.next_power_gt)

pub returns-in-None-clause-value : goal.returns-in-None-clause-value
returns-in-None-clause-value c = sym (length-short _ (omega (arith, c.in-None.ensures.none)))
