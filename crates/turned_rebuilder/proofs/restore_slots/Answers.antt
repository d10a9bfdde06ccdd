-- `turned_rebuilder::restore_slots` meets its contract: what the checks, and the survivors' slots, tell.
-- Assumes nothing.
use mathlib.Core.Path.{refl, sym, ap, ◌∙◌}
use Prim.Native.Nat.{ℕ, ◌≤◌, ◌<◌, ◌*◌}
use native.Mathlib.Omega.{arith}
use Rattle.gf2.specs.Within.{within}
use Rattle.flat.specs.Cards.{disks}
use Rattle.turned_rebuilder.proofs.Slots.{slots_consistent, slots_apart, slots_filled}
use Rattle.turned_rebuilder.proofs.restore_slots.Goals as goal

pub survivors-left-requires : goal.survivors-left-requires
unfolding disks
survivors-left-requires c = let legal = c.checks-checks.ensures.legal in (omega (arith, c.requires.disks.0, legal.0), c.args.turn.few)

pub returns-then-not-all_vanish : goal.returns-then-not-all_vanish
returns-then-not-all_vanish c =
    let n-is = c.requires.disks.0 in
    let below : c.args.turn.by < disks c.args.code.now = omega (arith, c.args.turn.below, n-is) in
    let answer = rw n-is at c.all_vanish.ensures
    ∙ slots_consistent c.args.code.now _ _ _ _ _ below c.checks-checks.ensures.value _ _ (ap (λ (s : ℕ). within s c.checks-checks.result) (rw n-is at c.survivors-left.ensures))
    (rw n-is at c.words_of_slots-words.ensures) in
    record { answer = sym c.if-not-all_vanish.true ∙ answer; stripe = refl }

pub fill-requires : goal.fill-requires
fill-requires c =
    let n-is = c.requires.disks.0 in
    let few : disks c.args.code.now ≤ 32 = omega (arith, c.args.turn.few, n-is) in
    let below : c.args.turn.by < disks c.args.code.now = omega (arith, c.args.turn.below, n-is) in
    record {
      le_l = (c.requires.sizes.0, c.args.turn.few, ap (λ (n : ℕ). n * c.args.l) n-is ∙ sym c.requires.sizes.2);
      by_index = λ d i u l v w. slots_apart c.args.code.now c.args.l _ _ c.args.stripe.now _ below c.checks-checks.ensures.value _ _ few c.requires.disks.1
          (rw n-is at c.slots_of-targets.ensures) (rw (c.survivors-left.ensures, n-is) at c.equations-sets.ensures) d i u v w;
    }

pub returns : goal.returns
returns c =
    let n-is = c.requires.disks.0 in
    let few : disks c.args.code.now ≤ 32 = omega (arith, c.args.turn.few, n-is) in
    let below : c.args.turn.by < disks c.args.code.now = omega (arith, c.args.turn.below, n-is) in
    let answer = rw n-is at c.all_vanish.ensures
    ∙ slots_consistent c.args.code.now _ _ _ _ _ below c.checks-checks.ensures.value _ _ (ap (λ (s : ℕ). within s c.checks-checks.result) (rw n-is at c.survivors-left.ensures))
    (rw n-is at c.words_of_slots-words.ensures) in
    record {
      answer = sym c.if-not-all_vanish.false ∙ answer;
      stripe = rw n-is at c.fill.ensures
          ∙ slots_filled c.args.code.now _ _ _ _ _ below c.checks-checks.ensures.value _ _ few c.requires.disks.1
          (rw n-is at c.slots_of-targets.ensures) (rw (c.survivors-left.ensures, n-is) at c.equations-sets.ensures) c.requires.sizes.2;
    }
