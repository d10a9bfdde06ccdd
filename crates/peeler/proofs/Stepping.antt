-- One stripe, step by step: what a turn of the loop does, and where it ends.
-- Assumes nothing.
use mathlib.Core.Path.{◌≡◌, refl, sym, ap, ap₂, ◌∙◌, subst}
use mathlib.Core.Logic.{◌≢◌}
use mathlib.Core.List.{List}
use Prim.Native.Nat.{ℕ, zero, suc, ◌+◌, ◌-◌, ◌^◌, ◌<◌}
use native.Mathlib.Omega.{arith}
use lib.Dec.{T}
use lib.ListN.{get_or, length}
use Rattle.gf2.specs.Sets.{has, ◌∖◌}
use Rattle.gf2.proofs.Tests.{if_true, if_false}
use Rattle.gf2.proofs.Subsets.{∖_out}
use Rattle.flat.specs.Cards.{Code, disks}
use Rattle.flat.specs.Checks.{check}
use Rattle.flat.specs.Spans.{checks}
use Rattle.flat.specs.Repairs.{filled}
use Rattle.flat.proofs.Lists.{get_d_tabulate}
use Rattle.repair_steps.proofs.Stepped.{xored-filled}
use Rattle.peeling.specs.Peeling.{can_step, next_disk, next_check, less_next, with_next, Peeled, rest, more, peeled}
use Rattle.peeler.specs.Forms.{found}
use Rattle.peeler.proofs.Finding.{next-found}

-- the checks of the code, in a list
pub check_at : (C : Code) (words : List ℕ) → words ≡ checks C → (j : ℕ) → j < C.m → get_or words j 0 ≡ check C j
unfolding checks
check_at C words e j l = ap (λ (ws : List ℕ). get_or ws j 0) e ∙ get_d_tabulate C.m (check C) j l

-- a step's disk is none of the others
pub none_other : (word disk others : ℕ) → others ≡ word ∖ disk → (i : ℕ) → T (has others i) → T (has disk i) → ⊥
none_other word disk others e i t = (∖_out word disk i (subst (λ (x : ℕ). T (has x i)) e t)).1

-- ---- so many steps are made, and this is still to be peeled

abbrev pub plus : ℕ → Peeled → Peeled
plus made r = record { steps = made + r.steps; left = r.left; stripe = r.stripe }

abbrev pub Going : Code → ℕ → ℕ → Peeled → ℕ → ℕ → List ℕ → Type 0
Going C L budget whole made left stripe = plus made (peeled C L (budget - made) left stripe) ≡ whole

pub going_start : (C : Code) (L budget left : ℕ) (stripe : List ℕ) → Going C L budget (peeled C L budget left stripe) 0 left stripe
going_start C L budget left stripe =
    let r = peeled C L budget left stripe in
    ap (λ (b : ℕ). plus 0 (peeled C L b left stripe)) (let e : budget - 0 ≡ budget = omega arith in e)
    ∙ ap (λ (n : ℕ). record { steps = n; left = r.left; stripe = r.stripe }) (let e : 0 + r.steps ≡ r.steps = omega arith in e)

stuck : (C : Code) (L b S : ℕ) (stripe : List ℕ) → (T (can_step C S) → ⊥) → peeled C L b S stripe ≡ rest S stripe
unfolding peeled
stuck C L zero S stripe f = refl
stuck C L (suc b) S stripe f = if_false (can_step C S) (more (peeled C L b (less_next C S) (with_next C L S stripe))) (rest S stripe) f

moved : (C : Code) (L b S : ℕ) (stripe : List ℕ) → T (can_step C S) → peeled C L (suc b) S stripe ≡ more (peeled C L b (less_next C S) (with_next C L S stripe))
unfolding peeled
moved C L b S stripe t = if_true (can_step C S) (more (peeled C L b (less_next C S) (with_next C L S stripe))) (rest S stripe) t

-- what was found, told of the code
module _ (C : Code) (L budget : ℕ) (whole : Peeled) (words : List ℕ) (is : words ≡ checks C) (many : length words ≡ C.m) where
  -- nothing is left to do
  ended : (made left : ℕ) (stripe : List ℕ) → peeled C L (budget - made) left stripe ≡ rest left stripe → Going C L budget whole made left stripe
      → (made ≡ whole.steps) × (left ≡ whole.left) × (stripe ≡ whole.stripe)
  ended made left stripe e going =
      let w : record { steps = made + 0; left = left; stripe = stripe } ≡ whole = ap (plus made) (sym e) ∙ going in
      ((let z : made ≡ made + 0 = omega arith in z) ∙ ap (λ (r : Peeled). r.steps) w, ap (λ (r : Peeled). r.left) w, ap (λ (r : Peeled). r.stripe) w)

  pub going_stuck : (made left : ℕ) (stripe : List ℕ) → (found words left (length words)).set ≡ 0 → Going C L budget whole made left stripe
      → (made ≡ whole.steps) × (left ≡ whole.left) × (stripe ≡ whole.stripe)
  going_stuck made left stripe z =
      ended made left stripe
      (stuck C L (budget - made) left stripe (λ t. (next-found C left words (check_at C words is)).0.0 t (subst (λ (n : ℕ). (found words left n).set ≡ 0) many z)))

  pub going_spent : (made left : ℕ) (stripe : List ℕ) → made ≡ budget → Going C L budget whole made left stripe
      → (made ≡ whole.steps) × (left ≡ whole.left) × (stripe ≡ whole.stripe)
  unfolding peeled
  going_spent made left stripe e =
      ended made left stripe (ap (λ (b : ℕ). peeled C L b left stripe) (let z : budget - made ≡ 0 = omega arith in z))

  -- a step
  pub going_more : (made left : ℕ) (stripe : List ℕ) (disk others after : ℕ) (new : List ℕ) → made < budget
      → disk ≢ 0 → disk ≡ (found words left (length words)).set → others ≡ (found words left (length words)).word ∖ disk
      → new ≡ filled (disks C) L (λ d. others) disk stripe → after ≡ left ∖ disk
      → Going C L budget whole made left stripe → Going C L budget whole (made + 1) after new
  unfolding less_next with_next
  going_more made left stripe disk others after new l nz found_disk found_others en ea going =
      let ed : disk ≡ (found words left C.m).set = subst (λ (n : ℕ). disk ≡ (found words left n).set) many found_disk in
      let eo : others ≡ (found words left C.m).word ∖ disk = subst (λ (n : ℕ). others ≡ (found words left n).word ∖ disk) many found_others in
      let f = next-found C left words (check_at C words is) in
      let t : T (can_step C left) = f.0.1 (λ z. nz (ed ∙ z)) in
      let d = next_disk C left in
      let p = f.1 t in
      let a : disk ≡ 2 ^ d = ed ∙ p.0 in
      let E = check C (next_check C left) ∖ 2 ^ d in
      let b : others ≡ E = eo ∙ ap₂ (λ (x y : ℕ). x ∖ y) p.1 a in
      let s : new ≡ with_next C L left stripe =
      en ∙ ap₂ (λ (x y : ℕ). filled (disks C) L (λ i. x) y stripe) b a ∙ sym (xored-filled C L d E stripe) in
      let u : after ≡ less_next C left = ea ∙ ap (λ (x : ℕ). left ∖ x) a in
      let r = peeled C L (budget - (made + 1)) (less_next C left) (with_next C L left stripe) in
      ap₂ (λ (S : ℕ) (x : List ℕ). plus (made + 1) (peeled C L (budget - (made + 1)) S x)) u s
      ∙ ap (λ (n : ℕ). record { steps = n; left = r.left; stripe = r.stripe }) (let e : made + 1 + r.steps ≡ made + suc r.steps = omega arith in e)
      ∙ ap (plus made) (sym (moved C L (budget - (made + 1)) left stripe t))
      ∙ ap (λ (b : ℕ). plus made (peeled C L b left stripe)) (let e : suc (budget - (made + 1)) ≡ budget - made = omega arith in e)
      ∙ going
