-- Peeling: what a step does to the set, and what all steps do.
-- Assumes nothing.
use mathlib.Core.Path.{◌≡◌, refl, sym, ap, ◌∙◌, subst}
use mathlib.Core.Bool.{Bool, true, false}
use mathlib.Core.List.{List}
use Prim.Native.Nat.{ℕ, zero, suc, ◌+◌, ◌*◌, ◌^◌, ◌≤◌, ◌<◌, min}
use native.Mathlib.Nat.{not-suc-le-zero}
use native.Mathlib.Omega.{arith}
use lib.Dec.{T}
use lib.ListN.{length}
use Rattle.std.specs.Prelude.{if◌then◌else◌}
use Rattle.gf2.specs.Sets.{has, size, ◌∩◌, ◌⊆◌, ◌∖◌}
use Rattle.gf2.proofs.Tests.{eqb_out}
use Rattle.gf2.proofs.Subsets.{⊆_in, ∩_in, ∩_out, ∖_out, member_below, power_in, power_out}
use Rattle.gf2.proofs.Sizes.{size_less}
use Rattle.flat.specs.Cards.{Code, disks}
use Rattle.flat.specs.Erasures.{survivors}
use Rattle.flat.specs.Equations.{equation}
use Rattle.flat.specs.Checks.{check}
use Rattle.flat.proofs.Quantifiers.{some_in, some_out}
use Rattle.flat.proofs.Rows.{check_lt, check-word}
use Rattle.flat.proofs.CheckWords.{word-equation}
use Rattle.flat.proofs.Duality.{survivor_in}
use Rattle.repair_steps.specs.Steps.{Repairs}
use Rattle.peeling.specs.Peeling.{lone, peelable, can_step, next_disk, next_check, less_next, with_next, Peeled, rest, more, peeled}
use Rattle.peeling.specs.Theorems.{after, CutAtBudget, StepsCount, StuckBelowBudget, PeelingRepairs}
use Rattle.peeling.proofs.Searches.{lowest-has}
use Rattle.repair_steps.proofs.Stepped.{step-agrees, repair-none, repair-both}

-- ---- a lone disk

module _ (C : Code) (S d j : ℕ) (t : T (lone C S d j)) where
  pub both-has : (i : ℕ) → T (has (check C j ∩ S) i) → i ≡ d
  unfolding lone
  both-has i m = power_out d i (subst (λ (w : ℕ). T (has w i)) (eqb_out (check C j ∩ S) (2 ^ d) t) m)

  pub lone_in : T (has (check C j) d) × T (has S d)
  unfolding lone
  lone_in = ∩_out (check C j) S d (subst (λ (w : ℕ). T (has w d)) (sym (eqb_out (check C j ∩ S) (2 ^ d) t)) (power_in d))

  pub lone_below : d < disks C
  lone_below = member_below (disks C) (check C j) d (check_lt C j) lone_in.0

  -- the others survive
  pub lone-left : T (check C j ∖ 2 ^ d ⊆ survivors C S)
  lone-left =
      ⊆_in (check C j ∖ 2 ^ d) (survivors C S)
      (λ i m. let p = ∖_out (check C j) (2 ^ d) i m in
      survivor_in C S i (member_below (disks C) (check C j) i (check_lt C j) p.0)
      (λ s. p.1 (subst (λ (x : ℕ). T (has (2 ^ d) x)) (sym (both-has i (∩_in (check C j) S i p.0 s))) (power_in d))))

  -- and tell it
  pub lone-equation : j < C.m → T (equation C d (check C j ∖ 2 ^ d))
  lone-equation l = word-equation C d lone_below (check C j) (check-word C j l) lone_in.0

-- ---- a step of the rule

module _ (C : Code) (S : ℕ) (t : T (can_step C S)) where
  pub next-peelable : (next_disk C S < disks C) × T (peelable C S (next_disk C S))
  unfolding can_step next_disk
  next-peelable = let r = some_out (disks C) (peelable C S) t in lowest-has (disks C) (peelable C S) r.0 r.1 r.2

  pub next-lone : (next_check C S < C.m) × T (lone C S (next_disk C S) (next_check C S))
  unfolding peelable next_check
  next-lone =
      let r = some_out C.m (lone C S (next_disk C S)) next-peelable.1 in
      lowest-has C.m (lone C S (next_disk C S)) r.0 r.1 r.2

  next-size : suc (size (less_next C S)) ≡ size S
  unfolding less_next
  next-size =
      let e = size_less S (next_disk C S) (lone_in C S (next_disk C S) (next_check C S) next-lone.1).1 in omega arith

  next_repairs : (L : ℕ) (stripe : List ℕ) → length stripe ≡ disks C * L → Repairs C L S stripe (less_next C S) (with_next C L S stripe)
  unfolding less_next with_next
  next_repairs L stripe long =
      let d = next_disk C S in
      let j = next_check C S in
      let u = next-lone.1 in
      step-agrees C L S d (check C j ∖ 2 ^ d) stripe long next-peelable.0 (lone_in C S d j u).1 (lone-left C S d j u)
      (lone-equation C S d j u next-lone.0)

-- where there is no step, no disk is the only lost member of a check
stuck : (C : Code) (S : ℕ) → (T (can_step C S) → ⊥) → (d j : ℕ) → d < disks C → j < C.m → T (lone C S d j) → ⊥
unfolding can_step peelable
stuck C S f d j l m t = f (some_in (disks C) (peelable C S) (d, l, some_in C.m (lone C S d) (j, m, t)))

-- ---- all steps

pub steps-count : StepsCount
unfolding peeled
steps-count C L zero S stripe = let e : 0 + size S ≡ size S = omega arith in e
steps-count C L (suc b) S stripe = go (can_step C S) (λ t. t) (steps-count C L b (less_next C S) (with_next C L S stripe))
  where
    next : Peeled
    next = peeled C L b (less_next C S) (with_next C L S stripe)

    go : (p : Bool) → (T p → T (can_step C S)) → next.steps + size next.left ≡ size (less_next C S)
        → (if p then more next else rest S stripe).steps + size (if p then more next else rest S stripe).left ≡ size S
    go true f e = let z = next-size C S (f tt) in omega arith
    go false f e = let z : 0 + size S ≡ size S = omega arith in z

pub stuck-below_budget : StuckBelowBudget
unfolding peeled
stuck-below_budget C L zero S stripe l = absurd (not-suc-le-zero l)
stuck-below_budget C L (suc b) S stripe l = go (can_step C S) (λ t. t) l (stuck-below_budget C L b (less_next C S) (with_next C L S stripe))
  where
    next : Peeled
    next = peeled C L b (less_next C S) (with_next C L S stripe)

    go : (p : Bool) → (T (can_step C S) → T p) → (if p then more next else rest S stripe).steps < suc b
        → (next.steps < b → (d j : ℕ) → d < disks C → j < C.m → T (lone C next.left d j) → ⊥)
        → (d j : ℕ) → d < disks C → j < C.m → T (lone C (if p then more next else rest S stripe).left d j) → ⊥
    go true f m rec = rec (omega arith)
    go false f m rec = stuck C S f

pub peeling_repairs : PeelingRepairs
unfolding peeled
peeling_repairs C L zero S stripe long = repair-none C L S stripe
peeling_repairs C L (suc b) S stripe long = go (can_step C S) (λ t. t) (peeling_repairs C L b (less_next C S) (with_next C L S stripe))
  where
    next : Peeled
    next = peeled C L b (less_next C S) (with_next C L S stripe)

    go : (p : Bool) → (T p → T (can_step C S))
        → (length (with_next C L S stripe) ≡ disks C * L → Repairs C L (less_next C S) (with_next C L S stripe) next.left next.stripe)
        → Repairs C L S stripe (if p then more next else rest S stripe).left (if p then more next else rest S stripe).stripe
    go true f rec =
        let r = next_repairs C S (f tt) L stripe long in
        repair-both C L S (less_next C S) next.left stripe (with_next C L S stripe) next.stripe r (rec (r.long ∙ long))
    go false f rec = repair-none C L S stripe

-- ---- cut at the budget

cut : (C : Code) (L b c S : ℕ) (stripe : List ℕ) → size S ≤ c
    → (peeled C L b S stripe).steps ≡ min b (peeled C L c S stripe).steps
unfolding peeled
cut C L zero c S stripe h = omega arith
cut C L (suc b) zero S stripe h = omega (arith, steps-count C L (suc b) S stripe)
cut C L (suc b) (suc c) S stripe h = go (can_step C S) (λ t. t) (cut C L b c (less_next C S) (with_next C L S stripe))
  where
    next : ℕ → Peeled
    next a = peeled C L a (less_next C S) (with_next C L S stripe)

    go : (p : Bool) → (T p → T (can_step C S)) → (size (less_next C S) ≤ c → (next b).steps ≡ min b (next c).steps)
        → (if p then more (next b) else rest S stripe).steps ≡ min (suc b) (if p then more (next c) else rest S stripe).steps
    go true f rec =
        let z = next-size C S (f tt) in
        let e = rec (omega arith) in omega arith
    go false f rec = omega arith

made : (C : Code) (L b S : ℕ) (stripe : List ℕ) → peeled C L b S stripe ≡ after C L (peeled C L b S stripe).steps S stripe
unfolding peeled after
made C L zero S stripe = refl
made C L (suc b) S stripe = go (can_step C S) (made C L b (less_next C S) (with_next C L S stripe))
  where
    next : Peeled
    next = peeled C L b (less_next C S) (with_next C L S stripe)

    go : (p : Bool) → next ≡ after C L next.steps (less_next C S) (with_next C L S stripe)
        → (if p then more next else rest S stripe) ≡ after C L (if p then more next else rest S stripe).steps S stripe
    go true e = ap more e
    go false e = refl

pub cut-at_budget : CutAtBudget
cut-at_budget C L b c S stripe h = (cut C L b c S stripe h, made C L b S stripe)

-- so never more than the budget
pub steps-most : (C : Code) (L b S : ℕ) (stripe : List ℕ) → (peeled C L b S stripe).steps ≤ b
steps-most C L b S stripe = omega (arith, cut C L b (size S) S stripe (omega arith))
