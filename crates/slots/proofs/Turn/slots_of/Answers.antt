-- `slots::Turn::slots_of` meets its contract: the set's number, rotated the other way.
-- Assumes nothing.
use Rattle.std.proofs.Common.{sym, ◌∙◌}
use Rattle.turning.proofs.Sets.{slots_rotated}
use Rattle.slots.proofs.Turn.slots_of.Goals as goal

pub returns : goal.returns
returns c = c.rotated.ensures ∙ sym (slots_rotated _ _ _ c.args.self.below c.requires)
