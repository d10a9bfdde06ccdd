-- `text::decimals::numbers_length` meets its contract: after i turns the sum is the length of the first i pieces.
-- Assumes nothing.
use mathlib.Core.Path.{◌≡◌}
use Prim.Native.Nat.{◌*◌, ◌≤◌}
use lib.ListN.{length, take}
use Rattle.flat.specs.Lists.{each}
use Rattle.text.specs.Decimal.{spaced}
use Rattle.text.proofs.decimals.numbers_length.Given as goal

abbrev pub invariant-loop-number : goal.invariant-loop-number
invariant-loop-number l = (l.sum ≡ length (each spaced (take l.number-index l.numbers))) × (l.sum ≤ 21 * l.number-index)
