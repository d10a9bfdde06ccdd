-- `gf2::Basis::union` meets its contract. The disks held so far, and those of the words still to come, are those of all.
-- Assumes nothing.
use Rattle.std.proofs.Common.{sym, ap, ◌∙◌}
use Rattle.gf2.specs.Sets.{union}
use Rattle.gf2.proofs.Unions.{zero-∪}
use Rattle.gf2.proofs.Loops.{held_more, held_end}
use Rattle.gf2.proofs.Basis.union.Goals as goal

pub loop-word-init : goal.loop-word-init
loop-word-init c = zero-∪ _

pub loop-word-preserved : goal.loop-word-preserved
loop-word-preserved c =
    let at = c.loop-word in
    held_more c.words-word-items.result.now at.word-index at.held c.loop-word-test.true ∙ at.invariant

pub returns : goal.returns
returns c =
    let words = c.words-word-items.result.now in
    let at = c.loop-word in
    sym (held_end words at.word-index at.held c.loop-word-test.false) ∙ at.invariant ∙ ap union c.words-word-items.ensures.value
