-- `peeler::next` meets its contract: after some turns what the checks before give is found.
-- Assumes nothing.
use mathlib.Core.Path.{◌≡◌}
use Rattle.peeler.specs.Forms.{found}
use Rattle.peeler.proofs.next.Given as goal

abbrev pub invariant-loop-check : goal.invariant-loop-check
invariant-loop-check l = record { set = l.disk; word = l.word } ≡ found l.check-items l.left l.check-index
