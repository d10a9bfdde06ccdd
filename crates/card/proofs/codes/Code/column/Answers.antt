-- `card::Code::column` meets its contract.
-- Assumes nothing.
use borrow.Author.Rules.{rules}
use Rattle.card.proofs.Inside.{legal_inside, column_inside}
use Rattle.card.proofs.codes.Code.column.Goals as goal

pub returns-clause-value : goal.returns-clause-value
returns-clause-value c = column_inside _ _ _ _ c.self.view_is _ _ (search rules) c.column.ensures

pub returns-clause-legal : goal.returns-clause-legal
returns-clause-legal c = legal_inside _ _ _ _ c.self.view_is c.self.invariant
