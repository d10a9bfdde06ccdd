-- How long the lists of minimal erasures and of equations are: one entry at most for each word that selects rows.
-- Assumes nothing.
use mathlib.Core.Path.{ap}
use mathlib.Core.List.{List, map}
use Prim.Native.Nat.{ℕ, suc, ◌-◌, ◌^◌, ◌≤◌}
use native.Mathlib.Omega.{arith}
use lib.Dec.{eqb}
use lib.ListN.{length, length-map}
use Rattle.gf2.specs.Sets.{has, size, ◌∖◌}
use Rattle.gf2.specs.Span.{select}
use Rattle.gf2.specs.Within.{within}
use Rattle.flat.specs.Lists.{range, filter, ordered_by}
use Rattle.flat.specs.Cards.{Code, disks}
use Rattle.flat.specs.Equations.{parity_disks, by_size_and_parities}
use Rattle.flat.specs.Spans.{rows, checks, selectors, erasures_by_word, equations_by_parities}
use Rattle.flat.proofs.Rows.{rows-length, checks-length}
use Rattle.flat.proofs.ErasuresListed.{erasures_enumerated}
use Rattle.flat.proofs.EquationsListed.{equations_enumerated}
use Rattle.flat.proofs.Filters.{filter-length, length-range}
use Rattle.flat.proofs.Totals.{ordered-most}
use Rattle.export_bounds.specs.Theorems.{ErasuresFew, EquationsFew}

-- one candidate for each data word but 0
selectors-length : (bs : List ℕ) → length (selectors bs) ≤ 2 ^ length bs - 1
unfolding selectors
selectors-length bs =
    omega (
      arith,
      filter-length (λ x. eqb (length (within (select bs x) bs)) 1) (range 1 (2 ^ length bs - 1)),
      length-range 1 (2 ^ length bs - 1),
    )

by-word-length : (C : Code) → length (erasures_by_word C) ≤ 2 ^ length (rows C) - 1
unfolding erasures_by_word
by-word-length C =
    omega (
      arith,
      ordered-most size (suc (disks C)) (map (select (rows C)) (selectors (rows C))),
      length-map (selectors (rows C)) (select (rows C)),
      selectors-length (rows C),
    )

pub erasures-few : ErasuresFew
erasures-few C =
    omega (arith, ap length (erasures_enumerated C), by-word-length C, ap (λ (n : ℕ). 2 ^ n) (rows-length C))

by-parities-length : (C : Code) (d : ℕ) → length (equations_by_parities C d) ≤ 2 ^ length (checks C) - 1
unfolding equations_by_parities by_size_and_parities
by-parities-length C d =
    let holding = filter (λ p. has (select (checks C) p) d) (selectors (checks C)) in
    let candidates = map (λ p. select (checks C) p ∖ 2 ^ d) holding in
    omega (
      arith,
      ordered-most size (suc (disks C)) (ordered_by (parity_disks C) (suc C.m) candidates),
      ordered-most (parity_disks C) (suc C.m) candidates,
      length-map holding (λ p. select (checks C) p ∖ 2 ^ d),
      filter-length (λ p. has (select (checks C) p) d) (selectors (checks C)),
      selectors-length (checks C),
    )

pub equations-few : EquationsFew
equations-few C d l =
    omega (arith, ap length (equations_enumerated C d l), by-parities-length C d, ap (λ (n : ℕ). 2 ^ n) (checks-length C))
