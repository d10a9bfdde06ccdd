-- `least_wear::least` meets its contract. Assumes nothing.
use Rattle.least_wear.proofs.Called.{lent_requires, good_report}
use Rattle.least_wear.proofs.least.Goals as goal

pub least_equation-requires : goal.least_equation-requires
least_equation-requires c =
    let code = c.in_ok-code.ensures in
    lent_requires _ _ _ code.value code.code _ c.n-n.ensures.value _ c.wears-wears.ensures

pub returns : goal.returns
returns c =
    let code = c.in_ok-code.ensures in
    good_report _ _ _ code.value code.code _ c.n-n.ensures.value _ c.wears-wears.ensures _ _ _ c.least_equation.ensures
