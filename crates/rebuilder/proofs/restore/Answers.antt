-- `rebuilder::restore` meets its contract: fatal by the rows, and else what `restorer::restore` tells.
-- Assumes nothing.
use mathlib.Core.Path.{refl, ap, ◌∙◌}
use mathlib.Core.List.{[], ◌∷◌}
use Prim.Native.Nat.{ℕ}
use borrow.Author.Rules.{rules}
use Rattle.gf2.proofs.Subsets.{⊆-refl}
use Rattle.flat.specs.Lists.{Bytes}
use Rattle.flat.specs.Faults.{accepted, unless_refused}
use Rattle.restorer.proofs.Callers.{kept-none}
use Rattle.rebuilder.proofs.Restoring.{fatal-report, recoverable, inconsistent_report, restored-report, all-restored}
use Rattle.rebuilder.proofs.restore.Goals as goal

pub returns-then-undetermined-ne0 : goal.returns-then-undetermined-ne0
unfolding unless_refused
returns-then-undetermined-ne0 c =
    record { answer = fatal-report _ _ _ _ _ _ c.rows.ensures.value c.undetermined.ensures c.if-undetermined-ne0.true; stripe = refl }

pub restore-requires : goal.restore-requires
restore-requires c = record { sets = (c.requires.set, ⊆-refl _); sizes = c.requires.sizes }

pub returns-then-not-restore : goal.returns-then-not-restore
unfolding unless_refused
returns-then-not-restore c =
    let a = c.args in
    let bytes : Bytes a.stripe.now = λ i. search rules in
    let safe = recoverable a.code.now a.l a.lost a.stripe.now _ _ c.rows.ensures.value c.undetermined.ensures c.if-undetermined-ne0.false in
    let none = c.if-not-restore.true in
    record {
      answer = inconsistent_report a.code.now a.l a.lost a.stripe.now safe c.requires.sizes.0 bytes _ c.restore.ensures.answer none;
      stripe = kept-none _ _ _ _ none c.restore.ensures.stripe;
    }

pub returns : goal.returns
unfolding unless_refused
returns c =
    let a = c.args in
    let bytes : Bytes a.stripe.now = λ i. search rules in
    let safe = recoverable a.code.now a.l a.lost a.stripe.now _ _ c.rows.ensures.value c.undetermined.ensures c.if-undetermined-ne0.false in
    let some = c.if-not-restore.false in
    let q = c.requires.sizes in
    record {
      answer = ap (λ (n : ℕ). accepted (n ∷ [])) c.size-count.ensures
          ∙ restored-report a.code.now a.l a.lost a.stripe.now safe q.0 bytes _ c.restore.ensures.answer some;
      stripe = all-restored a.code.now a.l a.lost a.stripe.now safe q.0 bytes _ c.restore.ensures.answer _ q.2 some c.restore.ensures.stripe;
    }
