-- `repairs::equations` meets its contract: after d turns the first d places are filled, and zeros stand behind them.
-- Assumes nothing.
use Rattle.std.proofs.Common.{◌≡◌, length}
use Rattle.std.specs.Prelude.{if◌then◌else◌}
use Rattle.gf2.specs.Sets.{has}
use Rattle.flat.specs.Lists.{padded, tabulate}
use Rattle.flat.specs.Repairs.{equation_in}
use Rattle.repairs.proofs.equations.Given as goal

abbrev pub invariant-loop-d : goal.invariant-loop-d
invariant-loop-d l = record {
  long : length l.out ≡ 32;
  filled : l.out ≡ padded 32 (tabulate l.d (λ i. if has l.targets i then equation_in l.checks l.left i else 0));
}
