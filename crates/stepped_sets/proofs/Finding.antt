-- Finding a parity set's size, by the counts of the sizes before it.
-- Assumes nothing.
use mathlib.Core.Path.{◌≡◌, sym, ap, ◌∙◌, subst}
use mathlib.Core.Bool.{false}
use mathlib.Core.Logic.{⊎_elim}
use mathlib.Core.List.{List, ◌∷◌}
use Prim.Native.Nat.{ℕ, ◌+◌, ◌-◌, ◌≤◌, ◌<◌}
use native.Mathlib.Omega.{arith}
use borrow.Author.Tests.{lt-ltb, le-ltb, ne_eqb}
use lib.Dec.{T}
use lib.ListN.{length}
use Rattle.gf2.proofs.Tests.{below_or}
use Rattle.stepped_codes.specs.Stepped.{distance_ok, step, size_ok, parity_sets, parity_set, choose}
use Rattle.stepped_codes.specs.Placing.{placed, placed_among}
use Rattle.stepped_sets.specs.Distances.{number_of}
use Rattle.stepped_sets.specs.declared.Distance.{Distance}
use Rattle.stepped_sets.specs.declared.Distance.TheVariants.{Three, Four}
use Rattle.stepped_codes.proofs.Placing.{counted, sets-counted, placed-whole}
use Rattle.stepped_codes.proofs.Stepping.{first-size, step-up, sizes_from, sizes-none, sizes-first, sizes-next}

-- a distance is 3 or 4
pub distance_is : (e : Distance) → T (distance_ok (number_of e))
unfolding distance_ok
distance_is Three = tt
distance_is Four = tt

-- sizes go up
pub step_some : (e : Distance) (s : ℕ) → s ≡ step (number_of e) → 1 ≤ s
unfolding step
step_some Three s q = omega arith
step_some Four s q = omega arith

-- another number is none
pub other : (d : ℕ) → (d ≡ 3 → ⊥) → (d ≡ 4 → ⊥) → distance_ok d ≡ false
unfolding distance_ok
other d f g = rw (ne_eqb d 3 f, ne_eqb d 4 g)

-- what is left to find is the left-th set of the sizes from `size` on
abbrev pub Finding : ℕ → ℕ → ℕ → ℕ → ℕ → Type 0
Finding d m i size left =
    T (size_ok d size) × (left < counted m (sizes_from d m size)) × (placed_among m (sizes_from d m size) left ≡ parity_set d m i)

-- no size is past m
some_size : (d m i size left : ℕ) → Finding d m i size left → size ≤ m
unfolding counted
some_size d m i size left f = ⊎_elim (λ l. absurd (let h = f.1 in omega (arith, ap (counted m) (sizes-none d m size l)))) (λ l. l) (below_or m size)

module _ (d m i : ℕ) (ok : T (distance_ok d)) where
  pub finding_first : (size : ℕ) → size ≡ d - 1 → i < length (parity_sets d m) → Finding d m i size i
  finding_first size e l = rw e (
    first-size d ok,
    omega (arith, sets-counted d m, ap (counted m) (sizes-first d m ok)),
    sym (placed-whole d m i l ∙ ap (λ (ss : List ℕ). placed_among m ss i) (sizes-first d m ok)),
  )

  module _ (size left : ℕ) (f : Finding d m i size left) where
    pub finding_size : size ≤ m
    finding_size = some_size d m i size left f

    opened : sizes_from d m size ≡ size ∷ sizes_from d m (size + step d)
    opened = sizes-next d m ok size f.0 finding_size

    -- it is not of this size, and the next is one
    finding_next : (here next : ℕ) → here ≡ choose m size → next ≡ size + step d → here ≤ left → Finding d m i next (left - here)
    unfolding counted placed_among
    finding_next here next e u l =
        let h : choose m size ≤ left = omega arith in
        let less : left < choose m size + counted m (sizes_from d m (size + step d)) = subst (λ (ss : List ℕ). left < counted m ss) opened f.1 in
        rw (e, u) (
          step-up d ok size f.0,
          omega arith,
          (let q : placed_among m (size ∷ sizes_from d m (size + step d)) left ≡ placed_among m (sizes_from d m (size + step d)) (left - choose m size) =
              rw (le-ltb left (choose m size) h) in
              sym q ∙ ap (λ (ss : List ℕ). placed_among m ss left) (sym opened) ∙ f.2),
        )

    pub finding_more : (here next : ℕ) → here ≡ choose m size → next ≡ size + step d → here ≤ left → Finding d m i next (left - here) × (next ≤ m)
    finding_more here next e u l = let f = finding_next here next e u l in (f, some_size d m i next (left - here) f)

    -- it is
    pub finding_end : left < choose m size → placed m size left ≡ parity_set d m i
    unfolding placed_among
    finding_end l =
        let q : placed_among m (size ∷ sizes_from d m (size + step d)) left ≡ placed m size left = rw (lt-ltb left (choose m size) l) in
        sym q ∙ ap (λ (ss : List ℕ). placed_among m ss left) (sym opened) ∙ f.2
