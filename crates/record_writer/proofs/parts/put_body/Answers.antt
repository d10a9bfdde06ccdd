-- `record_writer::parts::put_body` meets its contract: the strip is copied where the disk is not lost.
-- Assumes nothing.
use mathlib.Core.Path.{◌≡◌, sym, ap, ◌∙◌}
use mathlib.Core.Bool.{false}
use lib.ListN.{length}
use native.Mathlib.Omega.{arith}
use Rattle.gf2.specs.Sets.{has}
use Rattle.record_format.proofs.Places.{body-next}
use Rattle.record_writer.proofs.Lent.{part_strip, body-there}
use Rattle.record_writer.proofs.parts.put_body.Goals as goal

pub copy-requires : goal.copy-requires
copy-requires c =
    let a = c.args in
    let y = a.layout in
    let there : has y.lost a.i ≡ false = sym c.has.ensures ∙ c.if-not-has.true in
    omega (
      arith,
      c.body_at.ensures,
      ap length (part_strip a.i y.l a.stripe.now),
      ap length (body-there y.l y.lost a.i a.stripe.now there),
      body-next y.start y.l y.lost a.i a.stripe.now c.requires.1,
    )
