-- `card_writer::put_columns` meets its contract: after j turns the first j columns stand in their places.
-- Assumes nothing.
use mathlib.Core.Path.{◌≡◌}
use lib.ListN.{length, take}
use Rattle.flat.specs.Lists.{each, bytes, put}
use Rattle.card_writer.proofs.put_columns.Given as goal

abbrev pub invariant-loop-j : goal.invariant-loop-j
invariant-loop-j l = (length l.out ≡ length l.initial.out) × (l.out ≡ put l.initial.out l.at (each (bytes 2) (take l.j l.columns)))
