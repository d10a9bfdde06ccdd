-- `text::lines::listing_length` meets its contract: the lengths of the first line, the sets' lines and the vector's line.
-- Assumes nothing.
use native.Mathlib.Omega.{arith}
use Rattle.text.proofs.Lengths.{length-listing}
use Rattle.text.proofs.lines.listing_length.Goals as goal

pub returns : goal.returns
returns c =
    let a = c.args in
    omega (arith, length-listing a.k a.m a.entries.now a.vector.now)
