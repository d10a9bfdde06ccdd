-- `strips::fill_few` meets its contract, whichever way is taken.
-- Assumes nothing.
use mathlib.Core.Path.{◌≡◌, sym, subst}
use mathlib.Core.List.{List}
use Prim.Native.Nat.{ℕ, ◌*◌}
use native.Mathlib.Omega.{arith}
use lib.ListN.{length, get_or}
use Rattle.gf2.specs.Sets.{over}
use Rattle.strip_blocks.specs.Places.{Inside, Apart}
use Rattle.strip_blocks.specs.Totals.{total}
use Rattle.strips.proofs.Streamed.{places-inside, places-apart, streamed_filled}
use Rattle.strips.proofs.fill_few.Goals as goal

pub fill-requires-clause-inside : goal.fill-requires-clause-inside
fill-requires-clause-inside c =
    let a = c.args in
    let members = c.of_set-members.ensures in
    subst (λ (x : List ℕ). Inside a.s.now a.l x (length x)) (sym c.places-places.ensures)
    (places-inside a.n a.l a.set a.s.now _ _ members.strips c.requires.sizes.2)

pub fill-requires-clause-apart : goal.fill-requires-clause-apart
fill-requires-clause-apart c =
    let a = c.args in
    let members = c.of_set-members.ensures in
    subst (λ (x : List ℕ). Apart (a.d * a.l) a.l x (length x)) (sym c.places-places.ensures)
    (places-apart a.n a.l a.set a.s.now _ _ members.strips a.d c.requires.apart)

pub returns-in-1-to-4 : goal.returns-in-1-to-4
returns-in-1-to-4 c =
    let a = c.args in
    let at = c.places-places.result.now in
    let sums : (f : ℕ → ℕ) → total (length at) (λ j. f (get_or at j 0)) ≡ over a.n a.set (λ i. f (i * a.l)) =
    subst (λ (x : List ℕ). (f : ℕ → ℕ) → total (length x) (λ j. f (get_or x j 0)) ≡ over a.n a.set (λ i. f (i * a.l)))
    (sym c.places-places.ensures) c.of_set-members.ensures.sums in
    streamed_filled a.n a.l a.set a.s.now at (length at) sums a.d _ (omega (arith, c.requires.sizes)) c.requires.sizes.3 c.fill.ensures
