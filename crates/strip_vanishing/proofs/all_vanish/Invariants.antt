-- `strip_vanishing::all_vanish` meets its contract: the words before the next vanish.
-- Assumes nothing.
use Rattle.strip_vanishing.proofs.Vanishing.{Tested}
use Rattle.strip_vanishing.proofs.all_vanish.Given as goal

abbrev pub invariant-loop-word : goal.invariant-loop-word
invariant-loop-word l = Tested l.n l.l l.s l.word-items l.word-index
