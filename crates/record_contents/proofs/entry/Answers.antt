-- `record_contents::entry` meets its contract: the bytes that are taken are the first of those that the library writes.
-- Assumes nothing.
use Rattle.record_contents.proofs.Numbers.{entry_bytes}
use Rattle.record_contents.proofs.entry.Goals as goal

pub returns : goal.returns
returns c = rw (c.to_le_bytes.ensures, c.to_le_bytes-2.ensures) (entry_bytes _ _ _ _)
