-- `slots::Turn::equations` meets its contract: after s turns the first s places are filled, and zeros stand behind them.
-- Assumes nothing.
use Rattle.std.proofs.Common.{◌≡◌, ◌-◌, length}
use Rattle.std.specs.Prelude.{if◌then◌else◌}
use Rattle.gf2.specs.Sets.{has}
use Rattle.flat.specs.Lists.{padded, tabulate}
use Rattle.flat.specs.Repairs.{equation_in}
use Rattle.turning.specs.Turning.{disk_in}
use Rattle.turning.specs.Slots.{rotated}
use Rattle.slots.proofs.Turn.equations.Given as goal

abbrev pub invariant-loop-s : goal.invariant-loop-s
invariant-loop-s l =
    let n = l.self.n in
    let t = l.self.by in
    record {
      long : length l.out ≡ 32;
      filled : l.out ≡ padded 32 (tabulate l.s (λ i. if has l.targets i then rotated n (n - t) (equation_in l.checks l.left (disk_in n t i)) else 0));
    }
