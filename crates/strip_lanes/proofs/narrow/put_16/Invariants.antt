-- `strip_lanes::narrow::put_16` meets its contract: a copy is made byte by byte.
-- Assumes nothing.
use Prim.Native.Nat.{◌≤◌}
use lib.ListN.{drop}
use Rattle.strip_blocks.proofs.Loops.{Copied}
use Rattle.strip_lanes.proofs.narrow.put_16.Given as goal

abbrev pub invariant-loop-t : goal.invariant-loop-t
invariant-loop-t l = (l.t ≤ 16) × Copied l.initial.s (drop l.from l.sums) l.at l.t l.s
