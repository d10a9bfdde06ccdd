-- `slots::Turn::basis` meets its contract: the rows before are rotated.
-- Assumes nothing.
use Rattle.std.proofs.Common.{◌≡◌, ◌-◌, ◌++◌, map, length, take, drop}
use Rattle.turning.specs.Slots.{rotated}
use Rattle.slots.proofs.Turn.basis.Given as goal

abbrev pub invariant-loop-row : goal.invariant-loop-row
invariant-loop-row l = record {
  sixteen : length l.row-items ≡ 16;
  before : l.row-items
      ≡ map (rotated l.self.n (l.self.n - l.self.by)) (take l.row-index l.initial.row-items) ++ drop l.row-index l.initial.row-items;
}
