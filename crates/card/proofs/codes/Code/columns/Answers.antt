-- `card::Code::columns` meets its contract: after j turns the first j columns stand in their places, and zeros behind them.
-- Assumes nothing.
use mathlib.Core.Path.{refl, ap, ◌∙◌}
use native.Mathlib.Omega.{arith}
use lib.ListN.{length-set}
use Rattle.flat.specs.Cards.{column}
use Rattle.flat.proofs.Lists.{fill_none, fill_more}
use Rattle.card.proofs.Inside.{legal_inside, all_columns}
use Rattle.card.proofs.codes.Code.columns.Goals as goal

pub loop-j-init : goal.loop-j-init
loop-j-init c = (omega arith, ap (λ C. C.m) c.self.view_is, c.self.invariant.3, refl, fill_none 16 _)

pub loop-j-preserved : goal.loop-j-preserved
loop-j-preserved c = let l = c.loop-j in (
  omega arith,
  l.invariant.1,
  l.invariant.2,
  simp length-set l.invariant.3,
  fill_more 16 _ _ (column c.args.self.now) _ (omega arith) l.invariant.4 c.column.ensures.value,
)

pub returns-clause-value : goal.returns-clause-value
returns-clause-value c =
    let l = c.loop-j in
    l.invariant.4 ∙ all_columns _ _ (omega arith) (legal_inside _ _ _ _ c.self.view_is c.self.invariant)

pub returns-clause-legal : goal.returns-clause-legal
returns-clause-legal c = legal_inside _ _ _ _ c.self.view_is c.self.invariant
