-- `gf2::select` meets its contract. The loop has summed the first i rows.
-- Assumes nothing.
use Rattle.std.proofs.Common.{◌≡◌, get_or}
use Rattle.gf2.specs.Sets.{over}
use Rattle.gf2.proofs.select.Given as goal

abbrev pub invariant-loop-i : goal.invariant-loop-i
invariant-loop-i l = l.word ≡ over l.i l.x (λ j. get_or l.row-items j 0)
