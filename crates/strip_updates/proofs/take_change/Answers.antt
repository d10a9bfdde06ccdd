-- `strip_updates::take_change` meets its contract: a table is stored place by place.
-- Assumes nothing.
use Rattle.gf2.specs.Sets.{◌⊕◌}
use mathlib.Core.Path.{refl}
use Rattle.strip_blocks.proofs.Loops.{table_more, table-all}
use borrow.Author.Rules.{rules}
use Rattle.strip_updates.proofs.take_change.Goals as goal

pub loop-t-preserved : goal.loop-t-preserved
unfolding ◌⊕◌
loop-t-preserved c = (search rules, table_more _ _ _ _ _ c.loop-t.invariant.1 (search rules) refl)

pub returns : goal.returns
returns c = table-all _ _ _ _ c.loop-t.invariant.1 (search rules)
