-- `turner::copy_cut` meets its contract.
-- Assumes nothing.
use mathlib.Core.Path.{sym}
use native.Mathlib.Omega.{arith}
use lib.Seq.{length-take-le}
use borrow.Author.Rules.{rules}
use Rattle.turner.proofs.Copied.{copied}
use Rattle.turner.proofs.copy_cut.Goals as goal

pub slice_bounds-copy-end-2 : goal.slice_bounds-copy-end-2
slice_bounds-copy-end-2 c = sym (length-take-le _ _ c.requires.0)

pub copy-requires-2 : goal.copy-requires-2
copy-requires-2 c =
    let h = length-take-le c.args.at c.args.stripe.now c.requires.0 in
    search (rules, h)

pub returns : goal.returns
returns c =
    let p = c.requires in
    copied _ _ _ _ _ _ p.0 p.1 c.copy.ensures c.copy-2.ensures (omega (arith, p.0, p.1))
