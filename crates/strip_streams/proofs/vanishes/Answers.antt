-- `strip_streams::vanishes` meets its contract: the pairs that fill up cancel.
-- Assumes nothing.
use mathlib.Core.Path.{◌∙◌}
use lib.ListN.{length}
use Rattle.strip_streams.proofs.Laws.{up-every}
use Rattle.strip_streams.proofs.vanishes.Goals as goal

pub returns-then-at-eq1 : goal.returns-then-at-eq1
returns-then-at-eq1 c =
    let a = c.args in
    let u = c.filled_up in
    c.vanishes_from.ensures ∙ up-every a.s.now a.at.now u.result (length a.at.now) 5 u.ensures.sums a.l

pub returns-else-at-eq1 : goal.returns-else-at-eq1
returns-else-at-eq1 c =
    let a = c.args in
    let u = c.filled_up-else-at-eq1 in
    c.vanishes_from-else-at-eq1.ensures ∙ up-every a.s.now a.at.now u.result (length a.at.now) 6 u.ensures.sums a.l
