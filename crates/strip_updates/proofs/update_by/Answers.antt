-- `strip_updates::update_by` meets its contract: after the last block, those below o are rewritten too.
-- Assumes nothing.
use mathlib.Core.Path.{◌∙◌}
use native.Mathlib.Omega.{arith}
use Rattle.strip_updates.proofs.Changing.{changed-long, below_none, below_more, below_all}
use borrow.Author.Rules.{rules}
use Rattle.strip_updates.proofs.update_by.Goals as goal

pub loop-o-init : goal.loop-o-init
loop-o-init g c = record { below = search rules; long = search rules; done = below_none _ _ _ _ _ }

pub loop-o-preserved : goal.loop-o-preserved
loop-o-preserved g c =
    let r = c.loop-o.invariant in
    let e = c.update_block-in-loop-o.ensures in
    record {
      below = omega arith;
      long = changed-long _ _ _ _ _ _ _ e ∙ r.long;
      done = below_more _ _ _ _ _ g.row.W _ (search rules) c.requires.apart _ _ _ (omega arith) r.done e;
    }

pub returns : goal.returns
returns g c =
    below_all _ _ _ _ _ g.row.W _ (search rules) c.requires.apart _ _ _ (search rules) (omega arith) (omega arith) c.update_block.ensures c.loop-o.invariant.done
