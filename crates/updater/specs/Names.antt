-- The parities that name a data disk, as a set. Nobody has to believe it: no public contract names it.
-- Assumes nothing.
use Rattle.std.specs.Prelude.{ℕ}
use Rattle.gf2.specs.Sets.{has}
use Rattle.flat.specs.Lists.{set_of}
use Rattle.flat.specs.Cards.{Code, column}

-- bit j is that of parity disk k + j
unfoldable pub names : Code → ℕ → ℕ
unfolding set_of has column
names C d = set_of C.m (λ j. has (column C j) d)
