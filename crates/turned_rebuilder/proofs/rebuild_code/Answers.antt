-- `turned_rebuilder::rebuild_code` meets its contract: the tests first, and what is refused is left as it was.
-- Assumes nothing.
use mathlib.Core.Path.{sym, ◌∙◌}
use native.Mathlib.Omega.{arith}
use Rattle.std.proofs.lemmas.Result.{err_from_is_err_and}
use Rattle.flat.specs.Cards.{disks}
use Rattle.flat.proofs.Tested.{passed_length, passed-set}
use Rattle.restorer.proofs.Callers.{all_passed}
use Rattle.rebuilder.proofs.Answered.{stripe_kept}
use Rattle.turning.proofs.Sets.{disks_lt}
use Rattle.turned_rebuilder.proofs.Restoring.{report-reduced, stripe-reduced}
use Rattle.turned_rebuilder.proofs.Answered.{tests_report}
use Rattle.turned_rebuilder.proofs.rebuild_code.Goals as goal

pub returns-in_err-tested : goal.returns-in_err-tested
returns-in_err-tested c =
    let p = err_from_is_err_and c.from_residual.result c.from_residual.ensures.1 in
    let told = c.in_err-tested.ensures c.args.code.now _ (sym c.n-n.ensures.value) in
    record { answer = rw (p.1, p.2) (tests_report _ _ _ _ _ _ told); stripe = rw (p.1, p.2) (stripe_kept _ _ _) }

pub of-turn-requires : goal.of-turn-requires
unfolding disks
of-turn-requires c = let legal = c.n-n.ensures.legal in (omega (arith, c.n-n.ensures.value, legal.0), c.n-n.ensures.bound)

pub lost_disks-lost-requires : goal.lost_disks-lost-requires
lost_disks-lost-requires c =
    let p = all_passed c.args.code.now _ _ _ (λ next. c.in_ok-tested.ensures _ next (sym c.n-n.ensures.value)) in
    rw (c.of-turn.ensures.disks, c.n-n.ensures.value) (passed-set p)

pub restore-requires : goal.restore-requires
restore-requires c =
    let p = all_passed c.args.code.now _ _ _ (λ next. c.in_ok-tested.ensures _ next (sym c.n-n.ensures.value)) in
    record {
      disks = (c.of-turn.ensures.disks ∙ c.n-n.ensures.value, rw (c.lost_disks-lost.ensures, c.of-turn.ensures.disks, c.n-n.ensures.value) (disks_lt _ _ _));
      sizes = ((passed_length p).0, (passed_length p).1, p.size);
    }

pub returns : goal.returns
returns c =
    let a = c.args in
    let C = a.code.now in
    let told = c.in_ok-tested.ensures C _ (sym c.n-n.ensures.value) in
    let turn = rw c.n-n.ensures.value at c.of-turn.ensures.turn.0 in
    let lost = rw (c.of-turn.ensures.disks, c.n-n.ensures.value) at c.lost_disks-lost.ensures in
    record {
      answer = tests_report _ _ _ _ _ _ (report-reduced C (disks C) a.l a.r _ a.slots a.stripe.now turn _ lost _ c.restore.ensures.answer ∙ told);
      stripe = stripe-reduced C (disks C) a.l a.r _ a.slots a.stripe.now turn _ lost _ _ c.restore.ensures.stripe;
    }
