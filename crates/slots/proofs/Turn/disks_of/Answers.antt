-- `slots::Turn::disks_of` meets its contract: the set's number, rotated.
-- Assumes nothing.
use Rattle.std.proofs.Common.{arith, sym, ◌∙◌}
use Rattle.turning.proofs.Sets.{disks-rotated}
use Rattle.slots.proofs.Turn.disks_of.Goals as goal

pub returns : goal.returns
returns c = let below = c.args.self.below in c.rotated.ensures ∙ sym (disks-rotated _ _ _ (omega arith) c.requires)
