-- `bases::checks` meets its contract: after j turns the first j checks stand in their places, and zeros after them.
-- Assumes nothing.
use mathlib.Core.Path.{ap, ◌∙◌}
use native.Mathlib.Omega.{arith}
use borrow.Author.Rules.{rules}
use lib.ListN.{length}
use Rattle.flat.proofs.Lists.{fill_none, fill_more}
use Rattle.flat.specs.Checks.{check}
use Rattle.bases.proofs.Adding.{rest_of_table, first_of_table, all_checks, count_checks}
use Rattle.bases.proofs.checks.Goals as goal

pub loop-j-init : goal.loop-j-init
loop-j-init c = record { within = omega arith; sixteen = search rules; table = fill_none 16 _ }

pub loop-j-preserved : goal.loop-j-preserved
loop-j-preserved c =
    let l = c.loop-j in
    let e = c.m-m.ensures in
    record {
      within = omega arith;
      sixteen = search rules;
      table = fill_more 16 l.j _ (check c.args.code.now) l.checks (omega (arith, e.value, e.legal.3)) l.invariant.table c.check.ensures;
    }

pub padded-requires-clause-rest : goal.padded-requires-clause-rest
padded-requires-clause-rest c =
    let l = c.loop-j in
    λ i h. rest_of_table _ l.j l.checks l.invariant.table i (omega arith)

pub returns : goal.returns
returns c =
    let l = c.loop-j in
    let e = c.m-m.ensures in
    let whole = c.padded.ensures ∙ first_of_table _ l.j l.checks l.invariant.table _ (omega arith) ∙ all_checks _ _ (omega (arith, e.value)) in
    record { value = whole; count = ap length whole ∙ count_checks _; legal = e.legal }
