-- `bases::check` meets its contract.
-- Assumes nothing.
use Rattle.bases.proofs.Adding.{check_added}
use Rattle.bases.proofs.check.Goals as goal

pub returns : goal.returns
returns c = check_added _ _ _ _ c.k.ensures.legal c.requires c.k.ensures.value c.column.ensures.value
