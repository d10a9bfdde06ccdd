-- `strip_vanishing::strip_vanishes` meets its contract, whichever way is taken; a strip with no byte vanishes.
-- Assumes nothing.
use native.Mathlib.Omega.{arith}
use Rattle.strip_vanishing.proofs.Vanishing.{vanished_none, vanished_all}
use Rattle.strip_vanishing.proofs.strip_vanishes.Goals as goal

pub returns-then-l-eq0 : goal.returns-then-l-eq0
returns-then-l-eq0 c =
    let a = c.args in
    vanished_all a.n a.l a.set a.s.now 0 (vanished_none a.n a.l a.set a.s.now) (omega arith)
