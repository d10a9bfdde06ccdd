-- `strip_blocks::copy_first` meets its contract: a part of the slice is written at once.
-- Assumes nothing.
use mathlib.Core.Path.{◌≡◌}
use lib.ListN.{length, take}
use lib.Seq.{length-take-le}
use Rattle.strip_blocks.proofs.Loops.{part_put}
use Rattle.strip_blocks.proofs.copy_first.Goals as goal

pub returns-clause-local_after : goal.returns-clause-local_after
returns-clause-local_after c =
    let long : length (take c.args.count c.args.s.now) ≡ c.args.count = length-take-le c.args.count c.args.s.now c.requires.2 in
    part_put _ _ _ _ _ c.copy_from_slice.ensures.after long
