-- `strip_vanishing::all_narrow_vanish` meets its contract: in the copy, whose strips are the same, the words before the next vanish.
-- Assumes nothing.
use mathlib.Core.Path.{sym, ap, ◌∙◌}
use native.Mathlib.Omega.{arith}
use Rattle.flat.specs.Repairs.{all_vanish}
use Rattle.strip_blocks.proofs.Aside.{aside_room, aside_byte}
use Rattle.strip_vanishing.proofs.Vanishing.{tested-none, tested-more, tested-not, tested-all, all_vanish_same}
use borrow.Author.Rules.{rules}
use Rattle.strip_vanishing.proofs.all_narrow_vanish.Goals as goal

pub copy_first-requires : goal.copy_first-requires
copy_first-requires c =
    let room = aside_room c.args.n c.args.l c.requires.1 c.requires.0 in
    (search rules, omega (arith, room), search rules)

pub loop-word-init : goal.loop-word-init
loop-word-init c = tested-none _ _ _ _

pub vanishes_narrow-requires : goal.vanishes_narrow-requires
vanishes_narrow-requires c =
    let room = aside_room c.args.n c.args.l c.requires.1 c.requires.0 in
    omega (arith, room, c.copy_first.ensures, c.requires)

pub returns-then-not-vanishes_narrow : goal.returns-then-not-vanishes_narrow
returns-then-not-vanishes_narrow c =
    let at = c.loop-word in
    let a = c.args in
    let room = aside_room a.n a.l c.requires.1 c.requires.0 in
    tested-not _ _ _ _ at.word-index at.invariant c.loop-word-test.true (sym c.vanishes_narrow.ensures ∙ c.if-not-vanishes_narrow.true)
    ∙ all_vanish_same a.n a.l a.s.now _ (aside_byte a.n a.l a.s.now _ _ (omega (arith, room)) (search rules) c.copy_first.ensures.local_after) _
    ∙ ap (all_vanish _ _ _) c.words-word-items.ensures.value

pub loop-word-preserved : goal.loop-word-preserved
loop-word-preserved c =
    let at = c.loop-word in
    tested-more _ _ _ _ at.word-index at.invariant c.loop-word-test.true (sym c.vanishes_narrow.ensures ∙ c.if-not-vanishes_narrow.false)

pub returns : goal.returns
returns c =
    let at = c.loop-word in
    let a = c.args in
    let room = aside_room a.n a.l c.requires.1 c.requires.0 in
    tested-all _ _ _ _ at.word-index at.invariant c.loop-word-test.false
    ∙ all_vanish_same a.n a.l a.s.now _ (aside_byte a.n a.l a.s.now _ _ (omega (arith, room)) (search rules) c.copy_first.ensures.local_after) _
    ∙ ap (all_vanish _ _ _) c.words-word-items.ensures.value
