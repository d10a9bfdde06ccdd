-- `card_writer::put_card` meets its contract: the parts one after the other are the card.
-- Assumes nothing.
use mathlib.Core.Path.{refl}
use native.Mathlib.Omega.{arith}
use Rattle.card_writer.proofs.Putting as putting
use Rattle.card_writer.proofs.put_card.Goals as goal

pub put_counts-at-requires : goal.put_counts-at-requires
put_counts-at-requires c =
    let a = c.args in
    let p = c.requires in
    (p.0, p.2, putting.counts_fit a.edition a.k a.m _ a.columns.now a.wears.now a.out.now p.3 p.4 p.5 refl p.1)

pub put_columns-requires : goal.put_columns-requires
put_columns-requires c =
    let a = c.args in
    let p = c.requires in
    let e = c.put_counts-at.ensures in
    (e.value.1, omega (arith, p.2, p.3), putting.columns_fit a.edition a.k a.m _ a.columns.now a.wears.now a.out.now p.3 p.4 p.5 e.value.0 _ e.out_after)

pub copy-requires : goal.copy-requires
copy-requires c =
    let a = c.args in
    let p = c.requires in
    let e = c.put_counts-at.ensures in
    putting.wears_fit a.edition a.k a.m _ a.columns.now a.wears.now a.out.now p.3 p.4 p.5 e.value.0 _ _ e.out_after c.put_columns.ensures

pub returns : goal.returns
returns c =
    let a = c.args in
    let p = c.requires in
    let e = c.put_counts-at.ensures in
    putting.card-put a.edition a.k a.m _ a.columns.now a.wears.now a.out.now p.3 p.4 p.5 e.value.0 _ _ _ e.out_after c.put_columns.ensures
    c.copy.ensures
