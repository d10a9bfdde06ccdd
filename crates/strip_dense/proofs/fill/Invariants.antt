-- `strip_dense::fill` meets its contract: the bytes below o of the strips of the targets are filled.
-- Assumes nothing.
use mathlib.Core.Path.{◌≡◌}
use Prim.Native.Nat.{◌*◌}
use Rattle.std.specs.Prelude.{min}
use lib.ListN.{length, get_or}
use Rattle.strip_dense.proofs.Patched.{Strips}
use Rattle.strip_dense.proofs.fill.Given as goal

abbrev pub invariant-loop-b : goal.invariant-loop-b
invariant-loop-b l = (length l.local ≡ 4096) × Strips l.n l.l (λ i. get_or l.sets i 0) l.targets l.initial.s (min (l.b * 128) l.l) l.s
