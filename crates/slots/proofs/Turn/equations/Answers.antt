-- `slots::Turn::equations` meets its contract: after s turns the first s places are filled, and zeros stand behind them.
-- Assumes nothing.
use Rattle.std.proofs.Common.{◌≡◌, ◌∙◌, refl, arith, rules}
use Rattle.gf2.specs.Sets.{has}
use Rattle.flat.proofs.Lists.{fill_none, fill_more, table_end}
use Rattle.slots.proofs.Turn.equations.Goals as goal

pub loop-s-init : goal.loop-s-init
loop-s-init c = record { long = refl; filled = fill_none 32 _ }

pub loop-s-preserved : goal.loop-s-preserved
loop-s-preserved c =
    let l = c.loop-s in
    record { long = search rules; filled = fill_more 32 l.s _ _ l.out (search rules) l.invariant.filled c.equation_if_target.ensures }

pub returns : goal.returns
returns c =
    let l = c.loop-s in
    let a = c.args in
    let e : l.s ≡ a.self.n = omega arith in
    (rw e at l.invariant.filled) ∙ table_end 32 a.self.n (has a.targets) _ a.self.few
