-- `encoder::row` meets its contract: the bits are stored place by place.
-- Assumes nothing.
use Rattle.gf2.specs.Sets.{bit}
use Rattle.flat.specs.Cards.{column}
use Rattle.encoder.proofs.Laws.{Row}
use Rattle.encoder.proofs.row.Given as goal

abbrev pub invariant-loop-j : goal.invariant-loop-j
invariant-loop-j l = Row (λ x. bit (column l.code x) l.i) l.i l.initial.bits l.j l.bits
