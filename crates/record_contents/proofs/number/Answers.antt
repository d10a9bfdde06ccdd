-- `record_contents::number` meets its contract: its bytes, and zeros behind them, are the eight that the library reads.
-- Assumes nothing.
use native.Mathlib.Omega.{arith}
use Rattle.record_contents.proofs.Numbers.{read_value, read_bound}
use Rattle.record_contents.proofs.number.Goals as goal

pub returns-clause-value : goal.returns-clause-value
returns-clause-value g c =
    let a = c.args in
    let p = c.requires in
    omega (arith, read_value a.s.now a.at g.row.W _ p.0 p.1 c.copy_from_slice.ensures.after)

pub returns-clause-bound : goal.returns-clause-bound
returns-clause-bound g c =
    let a = c.args in
    let p = c.requires in
    omega (
      arith,
      returns-clause-value g c,
      read_bound a.s.now a.at g.row.W _ p.0 p.1 c.copy_from_slice.ensures.after (λ i. (c.type_inv.s i).fits),
    )
