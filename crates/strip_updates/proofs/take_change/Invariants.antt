-- `strip_updates::take_change` meets its contract: a table is stored place by place.
-- Assumes nothing.
use Prim.Native.Nat.{◌+◌, ◌≤◌}
use lib.ListN.{length, get_or}
use Rattle.gf2.specs.Sets.{◌⊕◌}
use Rattle.strip_blocks.proofs.Loops.{Table}
use Rattle.strip_updates.proofs.take_change.Given as goal

abbrev pub invariant-loop-t : goal.invariant-loop-t
invariant-loop-t l = (l.t ≤ l.t-end) × Table (λ j. get_or l.s (l.at + j) 0 ⊕ get_or l.new (l.o + j) 0) (length l.initial.change) l.t l.change
