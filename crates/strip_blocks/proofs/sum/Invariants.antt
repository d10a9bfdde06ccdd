-- `strip_blocks::sum` meets its contract: the block is the XOR of the strips so far.
-- Assumes nothing.
use Prim.Native.Nat.{◌+◌, ◌≤◌}
use Rattle.gf2.specs.Sets.{over}
use Rattle.flat.specs.Strips.{byte_of}
use Rattle.strip_blocks.proofs.Summed.{Summed}
use Rattle.strip_blocks.proofs.sum.Given as goal

abbrev pub invariant-loop-i : goal.invariant-loop-i
invariant-loop-i g l = (l.i ≤ l.n) × Summed g.row.W (λ j t. over j l.set (byte_of l.l l.s (l.o + t))) l.i l.block
