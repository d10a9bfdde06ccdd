-- `card_writer::put_columns` meets its contract: after j turns the first j columns stand in their places.
-- Assumes nothing.
use mathlib.Core.Path.{refl, ap, ◌∙◌}
use Prim.Native.Nat.{◌+◌, ◌*◌}
use native.Mathlib.Omega.{arith}
use Rattle.flat.specs.Lists.{put}
use Rattle.card_writer.proofs.Putting.{two_bytes, columns-none, columns-more, columns-long, columns-all}
use Rattle.card_writer.proofs.put_columns.Goals as goal

pub loop-j-init : goal.loop-j-init
loop-j-init c = let a = c.args in (refl, columns-none _ a.at a.columns.now)

pub loop-j-preserved : goal.loop-j-preserved
loop-j-preserved c =
    let l = c.loop-j in
    let a = c.args in
    let cs = a.columns.now in
    let fits = c.requires.2 in
    let turn = c.copy.ensures ∙ ap (put l.out (a.at + 2 * l.j)) (c.to_le_bytes.ensures ∙ two_bytes _) in
    let e = columns-more _ _ _ a.at l.j _ cs fits (omega arith) l.invariant.1 refl turn in
    (columns-long _ _ a.at (l.j + 1) cs fits (omega arith) e, e)

pub returns : goal.returns
returns c = let l = c.loop-j in columns-all _ _ _ l.j _ (omega arith) l.invariant.1
