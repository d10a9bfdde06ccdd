-- `strip_updates::add` meets its contract: the run is written byte by byte, and what is read is as at entry.
-- Assumes nothing.
use Prim.Native.Nat.{◌+◌, ◌≤◌}
use lib.ListN.{get_or}
use Rattle.gf2.specs.Sets.{◌⊕◌}
use Rattle.strip_blocks.proofs.Runs.{Run}
use Rattle.strip_updates.proofs.add.Given as goal

abbrev pub invariant-loop-t : goal.invariant-loop-t
invariant-loop-t l = (l.t ≤ l.t-end) × Run l.initial.s l.at (λ j. get_or l.initial.s (l.at + j) 0 ⊕ get_or l.change j 0) l.t l.s
