-- `slots::rotated` meets its contract: what is shifted fits 64 bits, and what comes back fits 32.
-- Assumes nothing.
use borrow.Author.Rules.{rules}
use Rattle.slots.proofs.Laws.{power_pos, rotated-is, rotated_fits}
use Rattle.slots.proofs.rotated.Goals as goal

pub nonzero_rem-result : goal.nonzero_rem-result
nonzero_rem-result c = let a = c.args in power_pos a.set a.n a.a (search rules) c.requires.0 c.requires.1

pub overflow_cast-result : goal.overflow_cast-result
overflow_cast-result c =
    let a = c.args in
    let h = rotated_fits a.set a.n a.a (search rules) c.requires.0 c.requires.1 in
    search (rules, h)

pub returns : goal.returns
returns c = let a = c.args in rotated-is a.set a.n a.a (search rules) c.requires.0 c.requires.1
