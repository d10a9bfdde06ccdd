-- `gf2::first` meets its contract: all 32 disks, shifted until n are left.
-- Assumes nothing.
use Rattle.gf2.proofs.Unions.{ones_shifted}
use Rattle.gf2.proofs.first.Goals as goal

pub returns : goal.returns
returns c = ones_shifted c.args.n c.requires.1
