-- The parity disks of a code as a set. No public contract names it: how many of them a set holds is `parity_disks`, by a law of the proofs.
-- Assumes nothing.
use Rattle.std.specs.Prelude.{ℕ, ◌+◌, leb}
use Rattle.gf2.specs.Sets.{set_of}

-- of k data disks and m parity disks, those from k on
abbrev pub parities : ℕ → ℕ → ℕ
parities k m = set_of (k + m) (leb k)
