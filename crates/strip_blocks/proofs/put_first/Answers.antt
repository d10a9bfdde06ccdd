-- `strip_blocks::put_first` meets its contract: a part of the slice is written at once.
-- Assumes nothing.
use mathlib.Core.Path.{◌≡◌}
use Prim.Native.Nat.{◌+◌, ◌-◌}
use native.Mathlib.Omega.{arith}
use lib.ListN.{length, take}
use lib.Seq.{length-take-le}
use Rattle.strip_blocks.proofs.Loops.{part_put}
use borrow.Author.Rules.{rules}
use Rattle.strip_blocks.proofs.put_first.Goals as goal

pub returns : goal.returns
returns g c =
    let long : length (take c.args.count c.args.block) ≡ c.args.at + c.args.count - c.args.at = omega (arith, length-take-le c.args.count c.args.block (search rules)) in
    part_put _ _ _ _ _ c.copy_from_slice.ensures.after long
