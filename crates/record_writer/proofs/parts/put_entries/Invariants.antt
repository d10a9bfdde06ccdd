-- `record_writer::parts::put_entries` meets its contract: each entry goes right after the one before it.
-- Assumes nothing.
use Prim.Native.Nat.{◌≤◌}
use Rattle.record_format.specs.Records.{strip_entry}
use Rattle.record_writer.proofs.Runs.{Laid}
use Rattle.record_writer.proofs.parts.put_entries.Given as goal

abbrev pub invariant-loop-i : goal.invariant-loop-i
invariant-loop-i l = (l.i ≤ l.n) × Laid (strip_entry l.layout.start l.layout.l l.layout.lost) l.initial.out 20 l.i l.out
