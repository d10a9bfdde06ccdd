-- `strip_dense::is_dense` meets its contract.
-- Assumes nothing.
use mathlib.Core.Path.{◌≡◌}
use Prim.Native.Nat.{◌*◌, ◌≤◌}
use Rattle.strip_dense.specs.Named.{named}
use Rattle.strip_dense.proofs.is_dense.Given as goal

abbrev pub invariant-loop-d : goal.invariant-loop-d
invariant-loop-d l = (l.d ≤ l.n) × (l.named ≤ l.d * 4294967296) × (l.named ≡ named l.targets l.sets l.d)
