-- `listing::read_card`: what was read lies in the card's buffer, and each read leaves less of it.
-- Assumes nothing.
use Rattle.std.proofs.Common.{◌≤◌, ◌-◌, length}
use Rattle.listing.proofs.read_card.Given as goal

abbrev pub invariant-loop-done : goal.invariant-loop-done
invariant-loop-done g l = l.done ≤ length l.card

abbrev pub decreases-loop-done : goal.decreases-loop-done
decreases-loop-done g l = length l.card - l.done
