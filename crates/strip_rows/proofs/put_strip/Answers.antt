-- `strip_rows::put_strip` meets its contract: a copy is made byte by byte.
-- Assumes nothing.
use mathlib.Core.Path.{refl}
use Rattle.strip_blocks.proofs.Runs.{run_byte, run_all}
use borrow.Author.Rules.{rules}
use Rattle.strip_rows.proofs.put_strip.Goals as goal

pub loop-t-preserved : goal.loop-t-preserved
loop-t-preserved c = (search rules, run_byte _ _ _ _ _ _ c.loop-t.invariant.1 (search rules) refl)

pub returns : goal.returns
returns c = run_all _ _ _ _ _ _ c.loop-t.invariant.1 (search rules) (search rules)
