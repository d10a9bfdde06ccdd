-- `encoder::encode_code` meets its contract: the columns' bits give the parity strips.
-- Assumes nothing.
use borrow.Author.Rules.{rules}
use Rattle.flat.specs.Cards.{disks}
use Rattle.encoder.proofs.Laws.{table_encodes}
use Rattle.encoder.proofs.encode_code.Goals as goal

pub fill-requires : goal.fill-requires
unfolding disks
fill-requires c = rw (c.k.ensures.value, c.m.ensures.value) (search rules)

pub returns : goal.returns
returns c = table_encodes _ _ _ _ _ _ c.k.ensures.value c.requires.2 c.fill_table.ensures c.fill.ensures
