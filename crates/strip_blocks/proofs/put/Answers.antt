-- `strip_blocks::put` meets its contract: a part of the slice is written at once.
-- Assumes nothing.
use mathlib.Core.Path.{◌≡◌}
use Prim.Native.Nat.{◌+◌, ◌-◌}
use lib.ListN.{length}
use Rattle.strip_blocks.proofs.Loops.{part_put}
use borrow.Author.Rules.{rules}
use Rattle.strip_blocks.proofs.put.Goals as goal

pub returns : goal.returns
returns g c =
    let long : length c.args.block ≡ c.args.at + g.row.W - c.args.at = search rules in
    part_put _ _ _ _ _ c.copy_from_slice.ensures.after long
