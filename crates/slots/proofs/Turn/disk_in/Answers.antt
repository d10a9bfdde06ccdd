-- `slots::Turn::disk_in` meets its contract, by the two sides of the turn.
-- Assumes nothing.
use Rattle.std.proofs.Common.{arith}
use Rattle.slots.proofs.Laws.{disk-early, disk_late}
use Rattle.slots.proofs.Turn.disk_in.Goals as goal

pub returns-then-s-self : goal.returns-then-s-self
returns-then-s-self c =
    let below = c.args.self.below in
    (disk-early _ _ _ below c.requires (omega arith), omega arith)

pub returns : goal.returns
returns c =
    let below = c.args.self.below in
    (disk_late _ _ _ below c.requires (omega arith), omega arith)
