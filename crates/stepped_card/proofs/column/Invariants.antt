-- column meets its contract: after i turns the column has those of the first i data disks whose set has the disk.
-- Assumes nothing.
use mathlib.Core.Path.{◌≡◌}
use mathlib.Core.Bool.{Bool}
use mathlib.Core.List.{List}
use Prim.Native.Nat.{ℕ}
use lib.ListN.{get_or}
use Rattle.gf2.specs.Sets.{has}
use Rattle.flat.specs.Lists.{set_of}
use Rattle.stepped_card.proofs.column.Given as goal

-- does data disk i's set have disk j?
abbrev pub named : List ℕ → ℕ → ℕ → Bool
named sets j i = has (get_or sets i 0) j

abbrev pub invariant-loop-i : goal.invariant-loop-i
invariant-loop-i l = l.c ≡ set_of l.i (named l.sets l.j)
