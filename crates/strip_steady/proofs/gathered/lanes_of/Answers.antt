-- `strip_steady::gathered::lanes_of` meets its contract: the lanes of the parity disks so far are there.
-- Assumes nothing.
use Rattle.strip_steady.proofs.Offsets.{tabled_more}
use borrow.Author.Rules.{rules}
use Rattle.strip_steady.proofs.gathered.lanes_of.Goals as goal

pub loop-j-preserved : goal.loop-j-preserved
loop-j-preserved c = (search rules, tabled_more _ _ _ _ _ _ _ c.loop-j.invariant.1 c.requires.0 (search rules) c.spread.ensures (search rules) (search rules))

pub returns : goal.returns
returns c = let t = c.loop-j.invariant.1 in λ j i u h m n. (t.done j (search rules)).lane i u m n
