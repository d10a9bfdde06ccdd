-- `gf2::Basis::within` meets its contract. The rows left so far, and what `within` makes of the rows still to come, are what it makes of all.
-- Assumes nothing.
use Rattle.std.proofs.Common.{◌≡◌, ◌≤◌, ℕ, length, get_or}
use Rattle.gf2.specs.Within.{within}
use Rattle.gf2.proofs.Loops.{whole}
use Rattle.gf2.proofs.Basis.within.Given as goal

abbrev pub invariant-loop-i : goal.invariant-loop-i
invariant-loop-i l = record {
  sixteen : length l.rows ≡ 16;
  room : length l.left ≡ 16;
  fewer : l.count ≤ l.i;
  spare : (i : ℕ) → l.count ≤ i → get_or l.left i 0 ≡ 0;
  rest : whole l.set l.i-end l.i l.rows l.left l.count ≡ within l.set l.self;
}
