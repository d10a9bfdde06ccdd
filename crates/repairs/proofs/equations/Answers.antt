-- `repairs::equations` meets its contract: after d turns the first d places are filled, and zeros stand behind them.
-- Assumes nothing.
use mathlib.Core.Path.{◌≡◌, refl, ◌∙◌}
use native.Mathlib.Omega.{arith}
use Rattle.gf2.specs.Sets.{has}
use Rattle.flat.specs.Repairs.{equation_in}
use Rattle.flat.proofs.Lists.{fill_none, fill_more, table_end}
use borrow.Author.Rules.{rules}
use Rattle.repairs.proofs.equations.Goals as goal

pub loop-d-init : goal.loop-d-init
loop-d-init c = record { long = refl; filled = fill_none 32 _ }

pub loop-d-preserved : goal.loop-d-preserved
loop-d-preserved c =
    let l = c.loop-d in
    record { long = search rules; filled = fill_more 32 l.d _ _ l.out (search rules) l.invariant.filled c.equation_if_target.ensures }

pub returns : goal.returns
returns c =
    let l = c.loop-d in
    let a = c.args in
    let e : l.d ≡ a.n = omega arith in
    (rw e at l.invariant.filled) ∙ table_end 32 a.n (has a.targets) (equation_in _ a.left) c.requires
