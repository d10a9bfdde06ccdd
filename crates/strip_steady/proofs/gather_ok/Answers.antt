-- `strip_steady::gather_ok` meets its contract.
-- Assumes nothing.
use borrow.Author.Tests.{le-leb}
use Rattle.strip_steady.proofs.gather_ok.Goals as goal

pub returns : goal.returns
returns c = simp (le-leb _ _ c.if-l-lt4096.false, le-leb _ _ c.if-k-lt8.false)
