-- `card::Code::m` meets its contract.
-- Assumes nothing.
use Rattle.card.proofs.Inside.{legal_inside}
use Rattle.card.proofs.codes.Code.m.Goals as goal

pub returns-clause-legal : goal.returns-clause-legal
returns-clause-legal c = legal_inside _ _ _ _ c.self.view_is c.self.invariant
