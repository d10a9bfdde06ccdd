-- `bases::row` meets its contract: after j turns the row has its data disk and the first j parity disks that name it.
-- Assumes nothing.
use mathlib.Core.Path.{◌≡◌}
use Prim.Native.Nat.{◌+◌}
use Rattle.flat.specs.Lists.{set_of}
use Rattle.bases.proofs.Adding.{in_row}
use Rattle.bases.proofs.row.Given as goal

abbrev pub invariant-loop-j : goal.invariant-loop-j
invariant-loop-j l = (l.k ≡ l.code.k) × (l.row ≡ set_of (l.code.k + l.j) (in_row l.code l.i))
