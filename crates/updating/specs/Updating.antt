-- Document 02, request [4]: one strip rewritten. In the field's words, an update of one data disk.
-- Row d, data disk d with the parity disks whose column names it, is that of flat/specs/Checks.antt.
-- Assumes nothing.
use Rattle.std.specs.Prelude.{List, ℕ, ◌/◌, ◌%◌, length, get_or, if◌then◌else◌}
use Rattle.gf2.specs.Sets.{has, ◌⊕◌}
use Rattle.flat.specs.Lists.{count, tabulate}
use Rattle.flat.specs.Cards.{Code, column}
use Rattle.flat.specs.Strips.{byte_of}
use Rattle.flat.specs.Checks.{row}

-- the old byte t of data disk d, XORed with the new one
unfoldable pub change : ℕ → ℕ → List ℕ → List ℕ → ℕ → ℕ
unfolding ◌⊕◌ byte_of
change L d new stripe t = byte_of L stripe t d ⊕ get_or new t 0

-- only the strip of disk d and the parities naming it are updated: each byte of those is XORed with the old and the new data byte
unfoldable pub updated : Code → ℕ → ℕ → List ℕ → List ℕ → List ℕ
unfolding tabulate has row ◌⊕◌ change
updated C L d new stripe =
    tabulate (length stripe) (λ p. if has (row C d) (p / L) then get_or stripe p 0 ⊕ change L d new stripe (p % L) else get_or stripe p 0)

-- the number of parities that name data disk d
unfoldable pub naming : Code → ℕ → ℕ
unfolding count has column
naming C d = count C.m (λ j. has (column C j) d)
