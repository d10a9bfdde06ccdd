-- `text::lines::entries_length` meets its contract: after i turns the sum is the length of the first i pieces.
-- Assumes nothing.
use mathlib.Core.Path.{◌≡◌}
use Prim.Native.Nat.{◌*◌, ◌≤◌}
use lib.ListN.{length, take}
use Rattle.flat.specs.Lists.{each}
use Rattle.text.specs.Lines.{entry_line}
use Rattle.text.proofs.lines.entries_length.Given as goal

abbrev pub invariant-loop-set : goal.invariant-loop-set
invariant-loop-set l = (l.sum ≡ length (each entry_line (take l.set-index l.entries))) × (l.sum ≤ 42 * l.set-index)
