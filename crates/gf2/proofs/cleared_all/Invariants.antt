-- `gf2::cleared_all` meets its contract. The loop has mapped the function over the rows before.
-- Assumes nothing.
use Rattle.std.proofs.Common.{◌≡◌, ◌++◌, map, length, take, drop}
use Rattle.gf2.specs.Within.{clear}
use Rattle.gf2.proofs.cleared_all.Given as goal

abbrev pub invariant-loop-row : goal.invariant-loop-row
invariant-loop-row l = record {
  sixteen : length l.row-items ≡ 16;
  before : l.row-items ≡ map (clear l.d l.b) (take l.row-index l.fn.rows) ++ drop l.row-index l.fn.rows;
}
