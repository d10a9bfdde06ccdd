-- `copies::copy_few` meets its contract: a copy is made byte by byte.
-- Assumes nothing.
use mathlib.Core.Path.{◌≡◌, refl}
use lib.ListN.{length}
use Rattle.strip_blocks.proofs.Loops.{copied_none, copied_more, copied_all}
use borrow.Author.Rules.{rules}
use Rattle.copies.proofs.copy_few.Goals as goal

pub loop-t-init : goal.loop-t-init
loop-t-init c = (search rules, search rules, copied_none _ _ _)

pub loop-t-preserved : goal.loop-t-preserved
loop-t-preserved c = (search rules, search rules, copied_more _ _ _ _ _ _ c.loop-t.invariant.2 (search rules) (search rules) refl)

pub returns : goal.returns
returns c =
    let e : c.loop-t.t ≡ length c.args.new.now = search rules in
    copied_all _ _ _ _ _ c.loop-t.invariant.2 e
