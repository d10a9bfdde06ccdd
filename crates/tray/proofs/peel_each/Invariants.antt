-- `tray::peel_each` meets its contract: after i turns the first i stripes are done.
-- Assumes nothing.
use mathlib.Core.Path.{◌≡◌}
use Prim.Native.Nat.{◌≤◌}
use lib.ListN.{length}
use Rattle.tray.proofs.Turning.{Turned}
use Rattle.tray.proofs.peel_each.Given as goal

abbrev pub invariant-loop-i : goal.invariant-loop-i
invariant-loop-i l =
    (l.i ≤ l.i-end) × (l.i-end ≡ length l.sets) × (length l.left ≡ 8) × (length l.tray ≡ length l.initial.tray)
    × Turned l.code l.l l.budget l.sets l.initial.tray l.i l.steps l.left l.tray
