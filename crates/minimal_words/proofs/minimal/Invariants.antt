-- `minimal_words::minimal` meets its contract. The rows that the bits left pick are still to go through, and one of them is left inside w
-- where one of all is. Assumes nothing.
use mathlib.Core.Path.{◌≡◌}
use mathlib.Core.Logic.{◌≢◌}
use Prim.Native.Nat.{◌^◌, ◌<◌}
use lib.ListN.{length}
use Rattle.minimal_words.proofs.Picked.{picked}
use Rattle.minimal_words.proofs.Going.{Going}
use Rattle.minimal_words.proofs.minimal.Given as goal

abbrev pub invariant-loop-rows : goal.invariant-loop-rows
invariant-loop-rows l =
    (l.left ≢ 0) × (l.left < 2 ^ 16) × (length l.rows ≡ 16) × Going l.w (picked l.initial.rows l.initial.left) (picked l.rows l.left)

abbrev pub decreases-loop-rows : goal.decreases-loop-rows
decreases-loop-rows l = l.left
