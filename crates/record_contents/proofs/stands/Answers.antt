-- `record_contents::stands` meets its contract: the library compares the slices byte by byte.
-- Assumes nothing.
use mathlib.Core.Path.{◌∙◌}
use Rattle.record_contents.proofs.Compared.{rest-starts}
use Rattle.record_contents.proofs.stands.Goals as goal

pub returns : goal.returns
returns c = let a = c.args in c.starts_with.ensures.value ∙ rest-starts a.s.now a.at a.wanted.now
