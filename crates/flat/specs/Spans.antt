-- The same code as two spans: its codewords are the span of k rows, and the sets whose bits XOR to 0 that of m checks.
-- Computing code goes by these; nobody has to believe them, since Theorems says what they are and no public contract names them.
-- Assumes nothing.
use Rattle.std.specs.Prelude.{List, map, ℕ, suc, ◌-◌, ◌^◌, eqb, length}
use Rattle.gf2.specs.Sets.{has, size, ◌∖◌}
use Rattle.gf2.specs.Span.{select}
use Rattle.gf2.specs.Within.{within}
use Rattle.flat.specs.Lists.{set_of, range, tabulate, filter, ordered_by}
use Rattle.flat.specs.Cards.{Code, disks}
use Rattle.flat.specs.Erasures.{holds_bit}
use Rattle.flat.specs.Equations.{by_size_and_parities}
use Rattle.flat.specs.Checks.{row, check}

-- the codeword of a data word: the disks that hold 1
unfoldable pub codeword : Code → ℕ → ℕ
unfolding set_of disks holds_bit
codeword C x = set_of (disks C) (λ i. eqb (holds_bit C x i) 1)

-- the rows, and the checks
unfoldable pub rows : Code → List ℕ
unfolding tabulate row
rows C = tabulate C.k (row C)

unfoldable pub checks : Code → List ℕ
unfolding tabulate check
checks C = tabulate C.m (check C)

-- the numbers that select a minimal word of a span: one row is left inside the word
unfoldable pub selectors : List ℕ → List ℕ
unfolding filter range select within
selectors bs = filter (λ x. eqb (length (within (select bs x) bs)) 1) (range 1 (2 ^ length bs - 1))

-- the minimal erasures, one candidate for each data word
unfoldable pub erasures_by_word : Code → List ℕ
unfolding ordered_by size disks select rows selectors
erasures_by_word C = ordered_by size (suc (disks C)) (map (select (rows C)) (selectors (rows C)))

-- the equations of disk d, one candidate for each set of parities
unfoldable pub equations_by_parities : Code → ℕ → List ℕ
unfolding by_size_and_parities select checks selectors filter has ◌∖◌
equations_by_parities C d =
    by_size_and_parities C (map (λ p. select (checks C) p ∖ 2 ^ d) (filter (λ p. has (select (checks C) p) d) (selectors (checks C))))
