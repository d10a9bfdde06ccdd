-- `strip_blocks::added` meets its contract: a table is stored place by place.
-- Assumes nothing.
use Prim.Native.Nat.{◌+◌, ◌≤◌}
use lib.ListN.{get_or}
use Rattle.gf2.specs.Sets.{◌⊕◌}
use Rattle.strip_blocks.proofs.Loops.{Table}
use Rattle.strip_blocks.proofs.added.Given as goal

abbrev pub invariant-loop-t : goal.invariant-loop-t
invariant-loop-t g l = (l.t ≤ g.row.W) × Table (λ j. get_or l.block j 0 ⊕ get_or l.s (l.at + j) 0) g.row.W l.t l.out
