-- `card::Code::columns` meets its contract: after j turns the first j columns stand in their places, and zeros behind them.
-- Assumes nothing.
use mathlib.Core.Path.{◌≡◌}
use Prim.Native.Nat.{◌≤◌}
use lib.ListN.{length}
use Rattle.flat.specs.Lists.{tabulate, padded}
use Rattle.flat.specs.Cards.{column}
use Rattle.card.proofs.codes.Code.columns.Given as goal

abbrev pub invariant-loop-j : goal.invariant-loop-j
invariant-loop-j l =
    (l.j ≤ l.j-end) × (l.j-end ≡ l.self.m) × (l.j-end ≤ 16) × (length l.out ≡ 16) × (l.out ≡ padded 16 (tabulate l.j (column l.self)))
