-- `least_wear::walk` meets its contract: w is the word of the number before x, and the least rank met so far is known.
-- Assumes nothing.
use mathlib.Core.Path.{◌≡◌}
use Prim.Native.Nat.{◌-◌}
use Rattle.gf2.specs.Span.{select}
use Rattle.least_wear.specs.Forms.{LeastOf}
use Rattle.least_wear.proofs.Walks.{met}
use Rattle.least_wear.proofs.walk.Given as goal

abbrev pub invariant-loop-x : goal.invariant-loop-x
invariant-loop-x l = (l.w ≡ select l.words (l.x - 1)) × LeastOf (met l.weights l.set l.words) l.x l.least
