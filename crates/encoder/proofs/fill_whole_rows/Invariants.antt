-- `encoder::fill_whole_rows` meets its contract: the rows so far are stored.
-- Assumes nothing.
use Rattle.encoder.proofs.Laws.{Stored}
use Rattle.encoder.proofs.fill_whole_rows.Given as goal

abbrev pub invariant-loop-i : goal.invariant-loop-i
invariant-loop-i l = Stored l.code l.i l.bits
