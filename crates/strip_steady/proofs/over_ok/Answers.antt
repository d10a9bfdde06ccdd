-- `strip_steady::over_ok` meets its contract.
-- Assumes nothing.
use borrow.Author.Tests.{lt-ltb}
use Rattle.strip_steady.proofs.over_ok.Goals as goal

pub returns : goal.returns
returns c = simp (lt-ltb _ _ c.if-l-le32.false)
