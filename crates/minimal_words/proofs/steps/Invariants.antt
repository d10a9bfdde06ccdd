-- `minimal_words::steps` meets its contract: the rows before have their steps in their places, and the sum is that of the rows before.
-- Assumes nothing.
use Rattle.std.proofs.Common.{◌≡◌, ◌-◌, ◌^◌, ◌++◌, length, drop}
use Rattle.gf2.specs.Span.{select}
use Rattle.flat.specs.Lists.{tabulate}
use Rattle.minimal_words.specs.Listed.{step_of}
use Rattle.minimal_words.proofs.steps.Given as goal

abbrev pub invariant-loop-row : goal.invariant-loop-row
invariant-loop-row l = record {
  sixteen : length l.row-items ≡ 16;
  before : l.row-items ≡ tabulate l.row-index (step_of l.fn.rows) ++ drop l.row-index l.fn.rows;
  sum : l.sum ≡ select l.fn.rows (2 ^ l.row-index - 1);
}
