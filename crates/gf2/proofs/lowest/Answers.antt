-- `gf2::lowest` meets its contract: 32 digits are enough for the lowest disk of a set below 2 ^ 32.
-- Assumes nothing.
use borrow.Author.Rules.{rules}
use Rattle.gf2.proofs.Subsets.{lowest_trailing, lowest_lt}
use Rattle.gf2.proofs.lowest.Goals as goal

pub returns : goal.returns
returns c =
    let e = lowest_trailing 32 c.args.set c.requires (search rules) in
    (e, rw e (lowest_lt 32 c.args.set c.requires (search rules)))
