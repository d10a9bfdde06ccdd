-- `partial_rebuilder::restore` meets its contract: the undetermined disks by the rows, and else what `restorer::restore` tells.
-- Assumes nothing.
use borrow.Author.Rules.{rules}
use Rattle.flat.specs.Lists.{Bytes}
use Rattle.flat.specs.Faults.{unless_refused}
use Rattle.restorer.proofs.Callers.{kept-none}
use Rattle.partial_rebuilder.proofs.Restoring.{targets_lost, inconsistent_report, restored-report, brought-back}
use Rattle.partial_rebuilder.proofs.restore.Goals as goal

pub restore-requires : goal.restore-requires
restore-requires c = record { sets = (c.requires.set, targets_lost _ _ _ c.outside-determined.ensures); sizes = c.requires.sizes }

pub returns-then-not-restore : goal.returns-then-not-restore
unfolding unless_refused
returns-then-not-restore c =
    let a = c.args in
    let bytes : Bytes a.stripe.now = λ i. search rules in
    let none = c.if-not-restore.true in
    record {
      answer = inconsistent_report a.code.now a.l a.lost a.stripe.now _ _ c.rows.ensures.value c.undetermined-undetermined.ensures c.requires.sizes.0 bytes _ c.restore.ensures.answer none;
      stripe = kept-none _ _ _ _ none c.restore.ensures.stripe;
    }

pub returns : goal.returns
unfolding unless_refused
returns c =
    let a = c.args in
    let bytes : Bytes a.stripe.now = λ i. search rules in
    let q = c.requires.sizes in
    let some = c.if-not-restore.false in
    record {
      answer = restored-report a.code.now a.l a.lost a.stripe.now _ _ c.rows.ensures.value c.undetermined-undetermined.ensures q.0 bytes _ c.restore.ensures.answer some;
      stripe = brought-back a.code.now a.l a.lost a.stripe.now _ _ c.rows.ensures.value c.undetermined-undetermined.ensures q.0 bytes _ c.restore.ensures.answer _ _
          c.outside-determined.ensures q.2 some c.restore.ensures.stripe;
    }
