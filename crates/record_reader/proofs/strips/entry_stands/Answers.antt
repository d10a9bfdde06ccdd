-- `record_reader::strips::entry_stands` meets its contract: the entry's ten bytes stand in the file.
-- Assumes nothing.
use mathlib.Core.Path.{sym}
use native.Mathlib.Omega.{arith}
use Rattle.record_reader.proofs.Compared.{entry-stands}
use Rattle.record_reader.proofs.strips.entry_stands.Goals as goal

pub returns : goal.returns
returns c = sym (entry-stands _ _ _ _ _ _ _ (omega arith) c.strip_entry-entry.ensures c.stands.ensures)
