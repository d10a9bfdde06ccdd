-- `strip_steady::gathered::fill` meets its contract: the bytes of the parity strips below the next block are made.
-- Assumes nothing.
use mathlib.Core.Path.{◌≡◌}
use Prim.Native.Nat.{◌*◌}
use Rattle.std.specs.Prelude.{min}
use lib.ListN.{length}
use Rattle.strip_steady.proofs.Offsets.{OffsetsTo}
use Rattle.strip_steady.proofs.gathered.fill.Given as goal

abbrev pub invariant-loop-b : goal.invariant-loop-b
invariant-loop-b l = (length l.local ≡ 4096) × OffsetsTo l.k l.l l.m l.bits l.initial.s (min (l.b * 128) l.l) l.s
