-- `encoder::whole_row` meets its contract: the bits are stored place by place.
-- Assumes nothing.
use lib.ListN.{get_or}
use Rattle.gf2.specs.Sets.{bit}
use Rattle.encoder.proofs.Laws.{Row}
use Rattle.encoder.proofs.whole_row.Given as goal

abbrev pub invariant-loop-j : goal.invariant-loop-j
invariant-loop-j l = Row (λ x. bit (get_or l.columns x 0) l.i) l.i l.initial.bits l.j l.bits
