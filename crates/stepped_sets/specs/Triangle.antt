-- Pascal's triangle as the code holds it. Nobody has to believe it: no public contract names it.
-- Assumes nothing.
use Rattle.std.specs.Prelude.{List, ℕ, ◌+◌, ◌*◌, ◌/◌, ◌%◌}
use Rattle.flat.specs.Lists.{tabulate, padded}
use Rattle.stepped_codes.specs.Stepped.{choose}

-- what stands at place t: a row has eight places
unfoldable pub cell : ℕ → ℕ
unfolding choose
cell t = choose (t / 8) (t % 8)

-- rows 0 to n, then zeros
unfoldable pub rows_to : ℕ → List ℕ
unfolding tabulate padded cell
rows_to n = padded 64 (tabulate (8 * n + 8) cell)
