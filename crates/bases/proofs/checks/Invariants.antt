-- `bases::checks` meets its contract: after j turns the first j checks stand in their places, and zeros after them.
-- Assumes nothing.
use mathlib.Core.Path.{◌≡◌}
use Prim.Native.Nat.{◌≤◌}
use lib.ListN.{length}
use Rattle.flat.specs.Lists.{padded, tabulate}
use Rattle.flat.specs.Checks.{check}
use Rattle.bases.proofs.checks.Given as goal

abbrev pub invariant-loop-j : goal.invariant-loop-j
invariant-loop-j l = record {
  within : l.j ≤ l.m;
  sixteen : length l.checks ≡ 16;
  table : l.checks ≡ padded 16 (tabulate l.j (check l.code));
}
