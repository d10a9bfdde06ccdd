-- `bases::rows` meets its contract: after i turns the first i rows stand in their places, and zeros after them.
-- Assumes nothing.
use mathlib.Core.Path.{◌≡◌}
use Prim.Native.Nat.{◌≤◌}
use lib.ListN.{length}
use Rattle.flat.specs.Lists.{padded, tabulate}
use Rattle.flat.specs.Checks.{row}
use Rattle.bases.proofs.rows.Given as goal

abbrev pub invariant-loop-i : goal.invariant-loop-i
invariant-loop-i l = record {
  within : l.i ≤ l.k;
  sixteen : length l.rows ≡ 16;
  table : l.rows ≡ padded 16 (tabulate l.i (row l.code));
}
