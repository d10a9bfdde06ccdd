-- `erasures::vector` meets its contract: after i turns the first i places are filled, and zeros stand behind them.
-- Assumes nothing.
use mathlib.Core.Path.{◌≡◌}
use Prim.Native.Nat.{◌+◌, ◌*◌}
use lib.ListN.{get_or}
use Rattle.flat.specs.Lists.{padded, tabulate}
use Rattle.minimal_words.specs.Listed.{sizes}
use Rattle.erasures.proofs.vector.Given as goal

abbrev pub invariant-loop-i : goal.invariant-loop-i
invariant-loop-i l = l.out ≡ padded 17 (tabulate l.i (λ j. get_or l.counts ((j + 1) * sizes) 0))
