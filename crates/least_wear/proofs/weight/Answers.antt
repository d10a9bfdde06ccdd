-- `least_wear::weight` meets its contract, by the two cases of the test.
-- Assumes nothing.
use native.Mathlib.Omega.{arith}
use Rattle.least_wear.proofs.Ranks.{weight_data, weight-parity}
use Rattle.least_wear.proofs.weight.Goals as goal

pub returns-then-i-k : goal.returns-then-i-k
returns-then-i-k c =
    let a = c.args in
    omega (arith, weight_data a.k a.wears.now a.i c.if-i-k.true)

pub returns-else-i-k : goal.returns-else-i-k
returns-else-i-k c =
    let a = c.args in
    omega (arith, weight-parity a.k a.wears.now a.i c.if-i-k.false)
