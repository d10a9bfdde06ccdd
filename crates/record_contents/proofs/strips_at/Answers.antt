-- `record_contents::strips_at` meets its contract. Assumes nothing.
use native.Mathlib.Omega.{arith}
use Rattle.flat.specs.Cards.{card_length}
use Rattle.record_format.specs.Records.{entry_count, bodies_at, strips_at}
use Rattle.record_contents.proofs.strips_at.Goals as goal

pub returns-clause-value : goal.returns-clause-value
unfolding strips_at bodies_at entry_count card_length
returns-clause-value c = omega arith
