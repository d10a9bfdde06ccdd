-- `gf2::Basis::of` meets its contract. The rows so far are kept before the count, and all from it on are 0.
-- Assumes nothing.
use Rattle.std.proofs.Common.{◌≡◌, ◌≤◌, ◌<◌, ℕ, length, get_or}
use Rattle.gf2.proofs.Basis.of.Given as goal

abbrev pub invariant-loop-i : goal.invariant-loop-i
invariant-loop-i l = record {
  sixteen : length l.kept ≡ 16;
  words : (j : ℕ) → j < l.i → j < l.count → get_or l.kept j 0 ≡ get_or l.rows j 0;
  rest : (j : ℕ) → l.count ≤ j → get_or l.kept j 0 ≡ 0;
}
