-- `bases::rows` meets its contract: after i turns the first i rows stand in their places, and zeros after them.
-- Assumes nothing.
use mathlib.Core.Path.{ap, ◌∙◌}
use native.Mathlib.Omega.{arith}
use borrow.Author.Rules.{rules}
use lib.ListN.{length}
use Rattle.flat.proofs.Lists.{fill_none, fill_more}
use Rattle.flat.specs.Checks.{row}
use Rattle.bases.proofs.Adding.{rest_of_table, first_of_table, all_rows, count_rows}
use Rattle.bases.proofs.rows.Goals as goal

pub loop-i-init : goal.loop-i-init
loop-i-init c = record { within = omega arith; sixteen = search rules; table = fill_none 16 _ }

pub loop-i-preserved : goal.loop-i-preserved
loop-i-preserved c =
    let l = c.loop-i in
    let e = c.k-k.ensures in
    record {
      within = omega arith;
      sixteen = search rules;
      table = fill_more 16 l.i _ (row c.args.code.now) l.rows (omega (arith, e.value, e.legal.1)) l.invariant.table c.row.ensures;
    }

pub padded-requires-clause-rest : goal.padded-requires-clause-rest
padded-requires-clause-rest c =
    let l = c.loop-i in
    λ i h. rest_of_table _ l.i l.rows l.invariant.table i (omega arith)

pub returns : goal.returns
returns c =
    let l = c.loop-i in
    let e = c.k-k.ensures in
    let whole = c.padded.ensures ∙ first_of_table _ l.i l.rows l.invariant.table _ (omega arith) ∙ all_rows _ _ (omega (arith, e.value)) in
    record { value = whole; count = ap length whole ∙ count_rows _; legal = e.legal }
