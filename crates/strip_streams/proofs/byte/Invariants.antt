-- `strip_streams::byte` meets its contract: the byte is the XOR of the strips so far.
-- Assumes nothing.
use mathlib.Core.Path.{◌≡◌}
use Rattle.strip_blocks.specs.Totals.{xor_at}
use Rattle.strip_streams.proofs.byte.Given as goal

abbrev pub invariant-loop-j : goal.invariant-loop-j
invariant-loop-j g l = l.byte ≡ xor_at l.j l.at l.s l.t
