-- `strip_lanes::narrow::fill_short` meets its contract: the strip is written up to the next block or its end, the sums from there on are 0.
-- Assumes nothing.
use mathlib.Core.Path.{◌≡◌}
use Prim.Native.Nat.{ℕ, ◌*◌, ◌≤◌, min}
use lib.ListN.{length, get_or}
use Rattle.strip_lanes.proofs.Spreading.{StripTo}
use Rattle.strip_lanes.proofs.narrow.fill_short.Given as goal

abbrev pub invariant-loop-b : goal.invariant-loop-b
invariant-loop-b l = record {
  long : length l.sums ≡ 128;
  left : (p : ℕ) → l.b * 16 ≤ p → get_or l.sums p 0 ≡ 0;
  so_far : StripTo l.k l.l l.bits l.j l.initial.s (min (l.b * 16) l.l) l.s;
}
