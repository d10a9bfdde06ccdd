-- `strip_vanishing::vanishes_few` meets its contract, whichever way is taken.
-- Assumes nothing.
use mathlib.Core.Path.{◌≡◌, sym, ◌∙◌, subst}
use mathlib.Core.List.{List}
use Prim.Native.Nat.{ℕ, ◌*◌}
use native.Mathlib.Omega.{arith}
use lib.ListN.{length, get_or}
use Rattle.gf2.specs.Sets.{over}
use Rattle.strip_blocks.specs.Places.{Inside}
use Rattle.strip_blocks.specs.Totals.{total}
use Rattle.strip_blocks.proofs.Placed.{place_inside}
use Rattle.strip_vanishing.proofs.Vanishing.{streamed_vanishes}
use Rattle.strip_vanishing.proofs.vanishes_few.Goals as goal

pub vanishes-requires-clause-inside : goal.vanishes-requires-clause-inside
vanishes-requires-clause-inside c =
    let a = c.args in
    let members = c.of_set-members.ensures in
    subst (λ (x : List ℕ). Inside a.s.now a.l x (length x)) (sym c.places-places.ensures)
    (λ j h. let p = members.strips j h in omega (arith, place_inside _ _ _ _ p.1 p.3, c.requires))

pub returns-in-4-to-6 : goal.returns-in-4-to-6
returns-in-4-to-6 c =
    let a = c.args in
    let at = c.places-places.result.now in
    let sums : (f : ℕ → ℕ) → total (length at) (λ j. f (get_or at j 0)) ≡ over a.n a.set (λ i. f (i * a.l)) =
    subst (λ (x : List ℕ). (f : ℕ → ℕ) → total (length x) (λ j. f (get_or x j 0)) ≡ over a.n a.set (λ i. f (i * a.l)))
    (sym c.places-places.ensures) c.of_set-members.ensures.sums in
    c.vanishes.ensures ∙ streamed_vanishes a.n a.l a.set a.s.now at (length at) sums
