-- `turned_rebuilder::restore` meets its contract: fatal by the rows, and else what `restore_slots` tells.
-- Assumes nothing.
use mathlib.Core.Path.{refl, ap, ◌∙◌}
use mathlib.Core.List.{[], ◌∷◌}
use Prim.Native.Nat.{ℕ}
use borrow.Author.Rules.{rules}
use Rattle.flat.specs.Lists.{Bytes}
use Rattle.flat.specs.Cards.{disks}
use Rattle.flat.specs.Faults.{accepted, unless_refused}
use Rattle.restorer.proofs.Callers.{kept-none}
use Rattle.rebuilder.proofs.Restoring.{fatal-report, recoverable, inconsistent_report, restored-report}
use Rattle.turning.specs.Turning.{turned_back}
use Rattle.turning.proofs.Turned.{bytes_back}
use Rattle.turned_rebuilder.proofs.Restoring.{turned-all}
use Rattle.turned_rebuilder.proofs.restore.Goals as goal

pub returns-then-undetermined-ne0 : goal.returns-then-undetermined-ne0
unfolding unless_refused
returns-then-undetermined-ne0 c =
    record { answer = fatal-report _ _ _ _ _ _ c.rows.ensures.value c.undetermined.ensures c.if-undetermined-ne0.true; stripe = refl }

pub restore_slots-requires : goal.restore_slots-requires
restore_slots-requires c = record { disks = c.requires.disks; sizes = c.requires.sizes }

pub returns-then-not-restore_slots : goal.returns-then-not-restore_slots
unfolding unless_refused
returns-then-not-restore_slots c =
    let a = c.args in
    let C = a.code.now in
    let back = turned_back (disks C) a.l a.turn.by a.stripe.now in
    let stripe-bytes : Bytes a.stripe.now = λ i. search rules in
    let bytes : Bytes back = bytes_back (disks C) a.l a.turn.by a.stripe.now stripe-bytes in
    let safe = recoverable C a.l a.lost back _ _ c.rows.ensures.value c.undetermined.ensures c.if-undetermined-ne0.false in
    let none = c.if-not-restore_slots.true in
    record {
      answer = inconsistent_report C a.l a.lost back safe c.requires.sizes.0 bytes _ c.restore_slots.ensures.answer none;
      stripe = kept-none _ _ _ _ none c.restore_slots.ensures.stripe;
    }

pub returns : goal.returns
unfolding unless_refused
returns c =
    let a = c.args in
    let C = a.code.now in
    let back = turned_back (disks C) a.l a.turn.by a.stripe.now in
    let stripe-bytes : Bytes a.stripe.now = λ i. search rules in
    let bytes : Bytes back = bytes_back (disks C) a.l a.turn.by a.stripe.now stripe-bytes in
    let safe = recoverable C a.l a.lost back _ _ c.rows.ensures.value c.undetermined.ensures c.if-undetermined-ne0.false in
    let some = c.if-not-restore_slots.false in
    let long = c.requires.sizes.0 in
    record {
      answer = ap (λ (n : ℕ). accepted (n ∷ [])) c.size-count.ensures
          ∙ restored-report C a.l a.lost back safe long bytes _ c.restore_slots.ensures.answer some;
      stripe = turned-all C a.l a.turn.by a.lost a.stripe.now safe long bytes _ c.restore_slots.ensures.answer _ some c.restore_slots.ensures.stripe;
    }
