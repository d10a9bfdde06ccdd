-- `turner::turn_back` meets its contract.
-- Assumes nothing.
use mathlib.Core.Path.{sym}
use Prim.Native.Nat.{◌≤◌}
use native.Mathlib.Omega.{arith}
use Rattle.std.proofs.lemmas.Result.{err_from_is_err_and}
use Rattle.flat.specs.Cards.{disks}
use Rattle.turner.proofs.Answered.{good_report, good_back, bad_report, bad_back}
use Rattle.turner.proofs.turn_back.Goals as goal

pub returns-in_err-code : goal.returns-in_err-code
returns-in_err-code c =
    let p = err_from_is_err_and c.from_residual.result c.from_residual.ensures.1 in
    let value = c.in_err-code.ensures.value in
    record { result_value = rw (p.1, p.2) (bad_report _ _ _ c.args.r _ _ _ value); out_after = bad_back _ _ _ _ _ _ _ value }

pub of-turn-requires : goal.of-turn-requires
unfolding disks
of-turn-requires c = let legal = c.n-n.ensures.legal in (omega (arith, c.n-n.ensures.value, legal.0), c.n-n.ensures.bound)

pub returns : goal.returns
unfolding disks
returns c =
    let code = c.in_ok-code.ensures in
    let turn = c.of-turn in
    let answer = good_report _ _ _ c.args.r _ _ _ code.value code.code _ (c.turn_to.ensures.answer _ (sym c.n-n.ensures.value)) in
    let some : 1 ≤ disks c.in_ok-code.code = omega (arith, c.n-n.ensures.legal.0) in
    record {
      result_value = answer;
      out_after = good_back _ _ _ _ _ _ _ code.value code.code _ answer some _ turn.result.by (rw c.n-n.ensures.value at turn.ensures.turn.0)
          c.turn_to.ensures.out;
    }
