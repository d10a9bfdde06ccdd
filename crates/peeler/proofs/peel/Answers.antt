-- `peeler::peel` meets its contract: what is still to be peeled, with the steps made, is the whole.
-- Assumes nothing.
use mathlib.Core.Path.{◌≡◌, sym, ap, ◌∙◌}
use Prim.Native.Nat.{ℕ, ◌*◌}
use borrow.Author.Rules.{rules}
use native.Mathlib.Omega.{arith}
use Rattle.flat.specs.Repairs.{filled}
use Rattle.peeling.specs.Peeling.{peeled}
use Rattle.peeler.proofs.Stepping.{none_other, going_start, going_stuck, going_spent, going_more}
use Rattle.peeler.proofs.peel.Goals as goal

pub loop-steps-init : goal.loop-steps-init
loop-steps-init c = let a = c.args in (omega arith, c.requires.1, going_start a.code.now a.l a.budget a.lost a.stripe.now)

pub returns-in_default : goal.returns-in_default
returns-in_default c =
    let a = c.args in
    let at = c.loop-steps in
    let checks = c.checks-checks in
    let r = going_stuck a.code.now a.l a.budget (peeled a.code.now a.l a.budget a.lost a.stripe.now) checks.result checks.ensures.value checks.ensures.count
    at.steps at.left at.stripe c.in_default.ensures at.invariant.2 in
    record { steps = r.0; left = r.1; stripe = r.2 }

pub mend-requires : goal.mend-requires
mend-requires c =
    record {
      sizes = (c.requires.0, c.n-n.ensures.bound, ap (λ (n : ℕ). n * c.args.l) c.n-n.ensures.value ∙ sym c.loop-steps.invariant.1);
      apart = none_other _ _ _ c.in-Some.ensures.2;
    }

pub loop-steps-preserved : goal.loop-steps-preserved
loop-steps-preserved c =
    let a = c.args in
    let at = c.loop-steps in
    let checks = c.checks-checks in
    let step = c.in-Some.ensures in (
      search rules,
      search rules,
      going_more a.code.now a.l a.budget (peeled a.code.now a.l a.budget a.lost a.stripe.now) checks.result checks.ensures.value checks.ensures.count at.steps at.left at.stripe
          c.in-Some.step.disk c.in-Some.step.others c.outside-left.result c.mend.new.s (search rules) step.0 step.1 step.2
          (c.mend.ensures ∙ ap (λ (n : ℕ). filled n a.l (λ d. c.in-Some.step.others) c.in-Some.step.disk at.stripe) c.n-n.ensures.value) c.outside-left.ensures
          at.invariant.2,
    )

pub returns : goal.returns
returns c =
    let a = c.args in
    let at = c.loop-steps in
    let checks = c.checks-checks in
    let e : at.steps ≡ a.budget = omega arith in
    let r = going_spent a.code.now a.l a.budget (peeled a.code.now a.l a.budget a.lost a.stripe.now) checks.result checks.ensures.value checks.ensures.count
    at.steps at.left at.stripe e at.invariant.2 in
    record { steps = sym e ∙ r.0; left = r.1; stripe = r.2 }
