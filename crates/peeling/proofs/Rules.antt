-- The step rule in the request's words, and what it goes by.
-- Assumes nothing.
use mathlib.Core.Path.{◌≡◌, refl, sym, ap, subst}
use mathlib.Core.Bool.{Bool, true, false}
use mathlib.Core.Logic.{⊎_elim, ◌↔◌}
use Prim.Native.Nat.{ℕ, zero, suc, ◌^◌}
use lib.Dec.{T}
use Rattle.std.specs.Prelude.{if◌then◌else◌}
use Rattle.gf2.specs.Sets.{has, ◌∩◌, ◌∖◌}
use Rattle.gf2.proofs.Tests.{below_or, eqb_in}
use Rattle.gf2.proofs.Subsets.{⊆_in, ⊆_antisym, ∩_in, ∩_out, ∖_out, power_in, power_out}
use Rattle.flat.specs.Cards.{Code, disks}
use Rattle.flat.specs.Erasures.{fatal}
use Rattle.flat.specs.Checks.{check}
use Rattle.flat.proofs.Quantifiers.{some_in}
use Rattle.flat.proofs.Fatal.{fatal-more}
use Rattle.peeling.specs.Peeling.{lone, peelable, can_step, next_disk, next_check, less_next, with_next, Peeled, rest, more, peeled}
use Rattle.peeling.specs.Theorems.{LoneMember, StepRule, StepsBySet, PeelingFatal}
use Rattle.peeling.proofs.Searches.{lowest-least}
use Rattle.repair_steps.proofs.Stepped.{still_fatal}
use Rattle.peeling.proofs.Peels.{both-has, lone_in, lone_below, lone-left, lone-equation, next-peelable, next-lone}

pub lone-member : LoneMember
unfolding lone
lone-member C S d j = (
  λ t. let p = lone_in C S d j t in (p.0, p.1, λ i m s. both-has C S d j t i (∩_in (check C j) S i m s)),
  λ (m, s, h). eqb_in
      (⊆_antisym (check C j ∩ S) (2 ^ d)
      (⊆_in (check C j ∩ S) (2 ^ d)
      (λ i u. let p = ∩_out (check C j) S i u in subst (λ (x : ℕ). T (has (2 ^ d) x)) (sym (h i p.0 p.1)) (power_in d)))
      (⊆_in (2 ^ d) (check C j ∩ S) (λ i u. subst (λ (x : ℕ). T (has (check C j ∩ S) x)) (sym (power_out d i u)) (∩_in (check C j) S d m s)))),
)

pub step_rule : StepRule
unfolding can_step peelable next_disk next_check
step_rule C S = (
  (
    λ t. (next_disk C S, next_check C S, (next-lone C S t).0, (next-lone C S t).1),
    λ (d, j, m, t). some_in (disks C) (peelable C S) (d, lone_below C S d j t, some_in C.m (lone C S d) (j, m, t)),
  ),
  λ t. (
    (next-lone C S t).0,
    (next-lone C S t).1,
    λ d j m u. ⊎_elim (λ l. absurd (lowest-least (disks C) (peelable C S) d l (some_in C.m (lone C S d) (j, m, u)))) (λ l. l) (below_or d (next_disk C S)),
    λ j u. ⊎_elim (λ l. absurd (lowest-least C.m (lone C S (next_disk C S)) j l u)) (λ l. l) (below_or j (next_check C S)),
  ),
)

pub steps-by-set : StepsBySet
unfolding peeled
steps-by-set C L M zero S stripe other = (refl, refl)
steps-by-set C L M (suc b) S stripe other =
    go (can_step C S) (steps-by-set C L M b (less_next C S) (with_next C L S stripe) (with_next C M S other))
  where
    one : Peeled
    one = peeled C L b (less_next C S) (with_next C L S stripe)

    two : Peeled
    two = peeled C M b (less_next C S) (with_next C M S other)

    go : (p : Bool) → (one.steps ≡ two.steps) × (one.left ≡ two.left)
        → ((if p then more one else rest S stripe).steps ≡ (if p then more two else rest S other).steps)
        × ((if p then more one else rest S stripe).left ≡ (if p then more two else rest S other).left)
    go true e = (ap suc e.0, e.1)
    go false e = (refl, refl)

-- ---- fatal sets stay fatal

next-fatal : (C : Code) (S : ℕ) → T (can_step C S) → T (fatal C S) → T (fatal C (less_next C S))
unfolding less_next
next-fatal C S t =
    let d = next_disk C S in
    let j = next_check C S in
    let u = (next-lone C S t).1 in
    still_fatal C S d (check C j ∖ 2 ^ d) (next-peelable C S t).0 (lone-left C S d j u) (lone-equation C S d j u (next-lone C S t).0)

less-fatal : (C : Code) (S : ℕ) → T (fatal C (less_next C S)) → T (fatal C S)
unfolding less_next
less-fatal C S = fatal-more C (S ∖ 2 ^ next_disk C S) S (⊆_in (S ∖ 2 ^ next_disk C S) S (λ i m. (∖_out S (2 ^ next_disk C S) i m).0))

pub peeling_fatal : PeelingFatal
unfolding peeled
peeling_fatal C L zero S stripe = (λ t. t, λ t. t)
peeling_fatal C L (suc b) S stripe = go (can_step C S) (λ t. t) (peeling_fatal C L b (less_next C S) (with_next C L S stripe))
  where
    next : Peeled
    next = peeled C L b (less_next C S) (with_next C L S stripe)

    go : (p : Bool) → (T p → T (can_step C S)) → T (fatal C (less_next C S)) ↔ T (fatal C next.left)
        → T (fatal C S) ↔ T (fatal C (if p then more next else rest S stripe).left)
    go true f e = (λ t. e.0 (next-fatal C S (f tt) t), λ t. less-fatal C S (e.1 t))
    go false f e = (λ t. t, λ t. t)
