-- Which disks go with a data disk, and which with a parity disk, as document 02 speaks of them: the parities that name a disk, a check.
-- Assumes nothing.
use Rattle.std.specs.Prelude.{ℕ, ◌+◌, ◌-◌, eqb, ltb, if◌then◌else◌}
use Rattle.gf2.specs.Sets.{has}
use Rattle.flat.specs.Lists.{set_of}
use Rattle.flat.specs.Cards.{Code, disks, column}

-- row i: data disk i with the parity disks whose column names it
unfoldable pub row : Code → ℕ → ℕ
unfolding set_of disks has column
row C i = set_of (disks C) (λ d. if ltb d C.k then eqb d i else has (column C (d - C.k)) i)

-- check j: parity disk k + j with its data disks
unfoldable pub check : Code → ℕ → ℕ
unfolding set_of disks has column
check C j = set_of (disks C) (λ d. if ltb d C.k then has (column C j) d else eqb d (C.k + j))
