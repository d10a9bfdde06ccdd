-- `strip_updates::update_block` meets its contract: the change goes into the strip itself, and into those of the list.
-- Assumes nothing.
use Prim.Native.Nat.{ℕ}
use lib.ListN.{replicate, length-replicate}
use Rattle.strip_updates.proofs.Changing.{block-changed}
use borrow.Author.Rules.{rules}
use Rattle.strip_updates.proofs.update_block.Goals as goal

pub returns : goal.returns
returns g c =
    block-changed _ _ _ _ g.row.W _ _ (replicate g.row.W 0) _ _ _ (length-replicate {A = ℕ} g.row.W 0) (search rules)
    c.take_change.ensures c.add.ensures c.add_each.ensures
