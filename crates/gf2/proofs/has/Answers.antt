-- `gf2::has` meets its contract: the shifted and masked number is the bit.
-- Assumes nothing.
use Rattle.gf2.proofs.Bits.{bit_test}
use Rattle.gf2.proofs.has.Goals as goal

pub returns : goal.returns
returns c = bit_test c.args.set c.args.d
