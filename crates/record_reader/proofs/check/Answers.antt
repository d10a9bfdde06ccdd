-- `record_reader::check` meets its contract: what is known of a good record bounds its numbers.
-- Assumes nothing.
use native.Mathlib.Omega.{arith}
use Rattle.record_reader.proofs.Callers.{good}
use Rattle.record_reader.proofs.check.Goals as goal

pub returns-clause-bound : goal.returns-clause-bound
returns-clause-bound c =
    let g = good _ _ _ _ _ c.in_ok-found.ensures.value in (omega (arith, c.k.ensures.value, g.k_in), omega (arith, c.m.ensures.value, g.m_in), g.short)
