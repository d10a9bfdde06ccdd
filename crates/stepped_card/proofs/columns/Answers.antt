-- columns meets its contract. Assumes nothing.
use native.Mathlib.Omega.{arith}
use lib.ListN.{length-take}
use Rattle.flat.proofs.Lists.{fill_none, fill_more}
use borrow.Author.Rules.{rules}
use Rattle.stepped_codes.specs.Stepped.{stepped}
use Rattle.stepped_card.proofs.Laws.{column-is}
use Rattle.stepped_card.proofs.columns.Goals as goal

pub loop-j-init : goal.loop-j-init
loop-j-init c = fill_none 16 _

pub column-requires : goal.column-requires
column-requires c = (omega (arith, length-take c.args.k c.sets-sets.result), omega arith)

pub loop-j-preserved : goal.loop-j-preserved
loop-j-preserved c =
    let l = c.loop-j in
    fill_more 16 l.j _ _ _ (omega arith) l.invariant (column-is _ _ _ _ _ _ c.sets-sets.ensures c.column.ensures)

pub returns : goal.returns
unfolding stepped
returns c = search rules
