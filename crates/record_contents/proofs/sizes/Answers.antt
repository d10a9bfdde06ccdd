-- `record_contents::sizes` meets its contract: the bytes that are taken are the first of those that the library writes.
-- Assumes nothing.
use Rattle.record_contents.proofs.Numbers.{four_bytes, two_bytes}
use Rattle.record_contents.proofs.sizes.Goals as goal

pub returns : goal.returns
returns c = rw (c.to_le_bytes.ensures, c.to_le_bytes-2.ensures, four_bytes, two_bytes)
