-- `text::pen::Pen::put_listing` meets its contract: the first line, the sets' lines and the vector's line, one after the other.
-- Assumes nothing.
use mathlib.Core.List.{[], ◌∷◌, ◌++◌}
use Rattle.flat.specs.Lists.{each}
use Rattle.text.specs.Lines.{line, entry_line}
use Rattle.text.specs.Text.{code_word, vector_word, listing_text}
use Rattle.text.proofs.Pens.{wrote_then, front, behind}
use Rattle.text.proofs.pen.Pen.put_listing.Goals as goal

pub put_line-requires : goal.put_line-requires
unfolding listing_text
put_line-requires c =
    let a = c.args in
    let first = line code_word (a.k ∷ a.m ∷ []) in
    let sets = each entry_line a.entries.now in
    front first sets c.args.self.now (front (first ++ sets) (line vector_word a.vector.now) c.args.self.now c.requires)

pub put_entries-requires : goal.put_entries-requires
unfolding listing_text
put_entries-requires c =
    let a = c.args in
    let first = line code_word (a.k ∷ a.m ∷ []) in
    let sets = each entry_line a.entries.now in
    behind sets c.put_line.ensures (front (first ++ sets) (line vector_word a.vector.now) c.args.self.now c.requires)

pub put_line-requires-2 : goal.put_line-requires-2
unfolding listing_text
put_line-requires-2 c = behind (line vector_word c.args.vector.now) (wrote_then c.put_line.ensures c.put_entries.ensures) c.requires

pub returns : goal.returns
unfolding listing_text
returns c = wrote_then (wrote_then c.put_line.ensures c.put_entries.ensures) c.put_line-2.ensures
