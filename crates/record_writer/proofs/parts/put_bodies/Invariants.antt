-- `record_writer::parts::put_bodies` meets its contract: each body goes right after the one before it.
-- Assumes nothing.
use Prim.Native.Nat.{◌≤◌}
use Rattle.record_format.specs.Records.{strip_body}
use Rattle.record_writer.proofs.Runs.{Laid}
use Rattle.record_writer.proofs.parts.put_bodies.Given as goal

abbrev pub invariant-loop-i : goal.invariant-loop-i
invariant-loop-i l = (l.i ≤ l.n) × Laid (strip_body l.layout.l l.layout.lost l.stripe) l.initial.out l.layout.start l.i l.out
