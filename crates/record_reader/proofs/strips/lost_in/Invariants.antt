-- `record_reader::strips::lost_in` meets its contract: the set of the lost disks that the loop has passed.
-- Assumes nothing.
use mathlib.Core.Path.{◌≡◌}
use Prim.Native.Nat.{◌≤◌}
use Rattle.flat.specs.Lists.{set_of}
use Rattle.record_reader.proofs.LostSet.{lost_at}
use Rattle.record_reader.proofs.strips.lost_in.Given as goal

abbrev pub invariant-loop-i : goal.invariant-loop-i
invariant-loop-i l = (l.i ≤ l.n) × (l.lost ≡ set_of l.i (lost_at l.file))
