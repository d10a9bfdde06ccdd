-- `strip_vanishing::all_narrow_vanish` meets its contract: in the copy, whose strips are the same, the words before the next vanish.
-- Assumes nothing.
use Rattle.strip_vanishing.proofs.Vanishing.{Tested}
use Rattle.strip_vanishing.proofs.all_narrow_vanish.Given as goal

abbrev pub invariant-loop-word : goal.invariant-loop-word
invariant-loop-word l = Tested l.n l.l l.local l.word-items l.word-index
