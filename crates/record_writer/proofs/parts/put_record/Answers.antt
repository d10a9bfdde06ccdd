-- `record_writer::parts::put_record` meets its contract: the parts are put one after the other.
-- Assumes nothing.
use mathlib.Core.Path.{◌≡◌, ap, ap₂, ◌∙◌}
use mathlib.Core.List.{List}
use Prim.Native.Nat.{ℕ, ◌+◌, ◌*◌}
use native.Mathlib.Omega.{arith}
use lib.ListN.{length}
use Rattle.flat.specs.Lists.{range, each}
use Rattle.record_format.specs.Records.{mark, entry, strip_body, strip_entry}
use Rattle.flat.specs.Lists.{put}
use Rattle.record_writer.proofs.Recorded.{sizes_of, strips-at, record_put}
use Rattle.record_writer.proofs.parts.put_record.Goals as goal

pub put_bodies-requires : goal.put_bodies-requires
put_bodies-requires c =
    let pre = c.requires in
    (pre.0, pre.3, rw (strips-at _ _) (omega (arith, pre.4)))

pub returns : goal.returns
returns c =
    let head : let a = c.args in
    c.copy-3.new.out
    ≡ put (put (put a.out.now 0 mark) 4 (sizes_of a.n a.l)) 10 (entry 0 0 (20 + 10 * a.n) (length a.card.now)) =
    c.copy-3.ensures
    ∙ ap₂ (λ (x y : List ℕ). put x 10 y)
    (c.copy-2.ensures ∙ ap₂ (λ (x y : List ℕ). put x 4 y) c.copy.ensures c.sizes-sizes.ensures)
    (rw c.number.ensures at c.entry-entry.ensures) in
    let a = c.args in
    let bodies = 20 + 10 * a.n in
    let entries = each (strip_entry (bodies + length a.card.now) a.l a.lost) (range 0 a.n) in
    let strips = each (strip_body a.l a.lost a.stripe.now) (range 0 a.n) in
    c.put_bodies.ensures ∙ ap (λ (x : List ℕ). put x (bodies + length a.card.now) strips) c.copy-4.ensures
    ∙ ap (λ (x : List ℕ). put (put x bodies a.card.now) (bodies + length a.card.now) strips) c.put_entries.ensures
    ∙ ap (λ (x : List ℕ). put (put (put x 20 entries) bodies a.card.now) (bodies + length a.card.now) strips)
    (head)
    ∙ record_put a.card.now a.n a.l a.lost a.out.now c.requires.4 a.stripe.now
