-- `strip_streams::filled_up` meets its contract: the pairs that fill up cancel.
-- Assumes nothing.
use mathlib.Core.Path.{refl}
use lib.ListN.{length}
use Rattle.strip_blocks.proofs.Loops.{part_put}
use Rattle.strip_streams.proofs.Laws.{filled-up, filled-places, filled-sums}
use Rattle.strip_streams.proofs.filled_up.Goals as goal

pub returns : goal.returns
returns g c =
    let at = c.args.at.now in
    let up = filled-up at g.row.N _ c.requires.1 (part_put 0 (length at) _ _ at c.copy_from_slice.ensures.after refl) in
    record { places = filled-places at g.row.N _ up c.requires.0; sums = filled-sums at g.row.N _ up c.requires.1 c.requires.2 }
