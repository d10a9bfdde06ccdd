-- `restorer::restore` meets its contract: what the checks, and the survivors' strips, tell.
-- Assumes nothing.
use mathlib.Core.Path.{refl, sym, ap, ◌∙◌}
use Prim.Native.Nat.{ℕ, ◌*◌, ◌≤◌}
use native.Mathlib.Omega.{arith}
use Rattle.flat.specs.Cards.{disks}
use Rattle.repairs.proofs.Callers.{words-consistent, apart, filled_among}
use Rattle.restorer.proofs.restore.Goals as goal

pub survivors-left-requires : goal.survivors-left-requires
unfolding disks
survivors-left-requires c = let legal = c.n-n.ensures.legal in (omega (arith, c.n-n.ensures.value, legal.0), c.n-n.ensures.bound)

pub returns-then-not-all_vanish : goal.returns-then-not-all_vanish
returns-then-not-all_vanish c =
    let answer = rw c.n-n.ensures.value at c.all_vanish.ensures
    ∙ words-consistent c.args.code.now _ _ _ _ _ c.checks-checks.ensures.value (rw (c.survivors-left.ensures, c.n-n.ensures.value) at c.within.ensures.value) in
    record { answer = sym c.if-not-all_vanish.true ∙ answer; stripe = refl }

pub fill-requires : goal.fill-requires
fill-requires c =
    let C = c.args.code.now in
    let fits : disks C ≤ 32 = omega (arith, c.n-n.ensures) in
    record {
      le_l = (c.requires.sizes.0, c.n-n.ensures.bound, ap (λ (n : ℕ). n * c.args.l) c.n-n.ensures.value ∙ sym c.requires.sizes.2);
      by_index = λ d i t l u. apart C _ _ _ _ fits c.requires.sets.0 c.requires.sets.1 c.checks-checks.ensures.value
          (rw (c.survivors-left.ensures, c.n-n.ensures.value) at c.equations-equations.ensures) d i t u;
    }

pub returns : goal.returns
returns c =
    let C = c.args.code.now in
    let fits : disks C ≤ 32 = omega (arith, c.n-n.ensures) in
    let answer = rw c.n-n.ensures.value at c.all_vanish.ensures
    ∙ words-consistent C _ _ _ _ _ c.checks-checks.ensures.value (rw (c.survivors-left.ensures, c.n-n.ensures.value) at c.within.ensures.value) in
    record {
      answer = sym c.if-not-all_vanish.false ∙ answer;
      stripe = rw c.n-n.ensures.value at c.fill.ensures
          ∙ filled_among C _ _ _ _ fits c.requires.sets.0 c.requires.sets.1 c.checks-checks.ensures.value
          (rw (c.survivors-left.ensures, c.n-n.ensures.value) at c.equations-equations.ensures) _ _;
    }
