-- `strip_streams::fill` meets its contract: the pairs that fill up cancel.
-- Assumes nothing.
use mathlib.Core.Path.{◌∙◌}
use lib.ListN.{length}
use Rattle.strip_streams.proofs.Laws.{up-put}
use Rattle.strip_streams.proofs.fill.Goals as goal

pub returns-then-at-eq1 : goal.returns-then-at-eq1
returns-then-at-eq1 c =
    let a = c.args in
    let u = c.filled_up in
    c.fill_from.ensures ∙ up-put a.s.now a.at.now u.result (length a.at.now) _ u.ensures.sums a.p a.l

pub returns-else-at-eq1 : goal.returns-else-at-eq1
returns-else-at-eq1 c =
    let a = c.args in
    let u = c.filled_up-else-at-eq1 in
    c.fill_from-else-at-eq1.ensures ∙ up-put a.s.now a.at.now u.result (length a.at.now) _ u.ensures.sums a.p a.l
