-- `text::pen::Pen::put_entry` meets its contract: the size, the set and the line end, one after the other. What each has
-- room for goes by the lengths alone, so that it says nothing of the order.
-- Assumes nothing.
use mathlib.Core.Path.{ap, subst}
use mathlib.Core.List.{◌++◌}
use Prim.Native.Nat.{ℕ}
use native.Mathlib.Omega.{arith}
use lib.ListN.{length}
use Rattle.gf2.specs.Sets.{size}
use Rattle.text.specs.Decimal.{decimal, spaced}
use Rattle.text.specs.Lines.{entry_line}
use Rattle.text.specs.Pens.{Wrote}
use Rattle.text.proofs.Digits.{length-spaced}
use Rattle.text.proofs.Lengths.{length-entry}
use Rattle.text.proofs.Pens.{wrote_then, wrote-length}
use Rattle.text.proofs.pen.Pen.put_entry.Goals as goal

pub put_decimal-requires : goal.put_decimal-requires
put_decimal-requires c =
    let sized = ap (λ (n : ℕ). length (decimal n)) c.size-size.ensures in
    omega (arith, sized, length-entry c.args.set)

pub put_spaced-requires : goal.put_spaced-requires
put_spaced-requires c =
    let sized = ap (λ (n : ℕ). length (decimal n)) c.size-size.ensures in
    let p = c.put_decimal.ensures in
    omega (arith, p.put.place, wrote-length p, length-spaced c.args.set, length-spaced c.size-size.result, sized, length-entry c.args.set)

pub put-requires : goal.put-requires
put-requires c =
    let sized = ap (λ (n : ℕ). length (decimal n)) c.size-size.ensures in
    let p = c.put_decimal.ensures in
    let q = c.put_spaced.ensures in
    omega (
      arith,
      p.put.place,
      q.put.place,
      wrote-length p,
      wrote-length q,
      length-spaced c.args.set,
      length-spaced c.size-size.result,
      sized,
      length-entry c.args.set,
    )

pub returns : goal.returns
unfolding entry_line
returns c =
    let sized : Wrote (decimal (size c.args.set)) c.args.self.now c.put_decimal.new.self =
    subst (λ (n : ℕ). Wrote (decimal n) c.args.self.now c.put_decimal.new.self) c.size-size.ensures c.put_decimal.ensures in
    let both : Wrote (decimal (size c.args.set) ++ spaced c.args.set) c.args.self.now c.put_spaced.new.self =
    wrote_then sized c.put_spaced.ensures in
    wrote_then both c.put.ensures
