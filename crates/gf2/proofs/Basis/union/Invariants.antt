-- `gf2::Basis::union` meets its contract. The disks held so far, and those of the words still to come, are those of all.
-- Assumes nothing.
use Rattle.std.proofs.Common.{◌≡◌, drop}
use Rattle.gf2.specs.Sets.{◌∪◌, union}
use Rattle.gf2.proofs.Basis.union.Given as goal

abbrev pub invariant-loop-word : goal.invariant-loop-word
invariant-loop-word l = l.held ∪ union (drop l.word-index l.word-items) ≡ union l.word-items
