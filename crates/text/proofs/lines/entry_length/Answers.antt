-- `text::lines::entry_length` meets its contract: the digits of the size and of the set, a space and a line end.
-- Assumes nothing.
use mathlib.Core.Path.{ap}
use Prim.Native.Nat.{ℕ}
use native.Mathlib.Omega.{arith}
use lib.ListN.{length}
use Rattle.text.specs.Decimal.{decimal}
use Rattle.text.proofs.Lengths.{length-entry}
use Rattle.text.proofs.lines.entry_length.Goals as goal

pub returns-clause-value : goal.returns-clause-value
returns-clause-value c = omega (arith, ap (λ (n : ℕ). length (decimal n)) c.size.ensures, length-entry c.args.set)
