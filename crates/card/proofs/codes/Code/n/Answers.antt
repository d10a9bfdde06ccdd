-- `card::Code::n` meets its contract.
-- Assumes nothing.
use Rattle.card.proofs.Inside.{legal_inside, disks_inside}
use Rattle.card.proofs.codes.Code.n.Goals as goal

pub returns-clause-value : goal.returns-clause-value
returns-clause-value c = disks_inside _ _ _ _ c.self.view_is

pub returns-clause-legal : goal.returns-clause-legal
returns-clause-legal c = legal_inside _ _ _ _ c.self.view_is c.self.invariant
