-- `copies::copy_few` meets its contract: a copy is made byte by byte.
-- Assumes nothing.
use mathlib.Core.Path.{◌≡◌}
use Prim.Native.Nat.{◌≤◌}
use lib.ListN.{length}
use Rattle.strip_blocks.proofs.Loops.{Copied}
use Rattle.copies.proofs.copy_few.Given as goal

abbrev pub invariant-loop-t : goal.invariant-loop-t
invariant-loop-t l = (l.t ≤ length l.new) × (l.t-end ≡ length l.new) × Copied l.initial.out l.new l.at l.t l.out
