-- Document 02, [8] "Alike, but not the same spares": renumbering the parity disks. What alike means stands in flat/specs/Alike.antt.
-- Assumes nothing.
use Rattle.std.specs.Prelude.{◌≡◌, ◌&&◌, ℕ, ◌+◌, ◌-◌, ◌<◌, eqb, ltb, if◌then◌else◌}
use Rattle.gf2.specs.Sets.{has}
use Rattle.flat.specs.Lists.{some, set_of, Permutes}
use Rattle.flat.specs.Cards.{Code, disks, column}

-- k and m are equal, and π rearranges the columns of A into those of B: parity disk k + j of A becomes parity disk k + π j of B
pub record Renumbering (A B : Code) (π : ℕ → ℕ) : Type 0 where
  pub same_k : A.k ≡ B.k
  pub same_m : A.m ≡ B.m
  pub permutes : Permutes A.m π
  pub carries : (j : ℕ) → j < A.m → column B (π j) ≡ column A j

-- disk d after the parity disks are renumbered: a data disk stays
unfoldable pub place : Code → (ℕ → ℕ) → ℕ → ℕ
place C π d = if ltb d C.k then d else C.k + π (d - C.k)

-- the disks that those of S become
unfoldable pub renumbered : Code → (ℕ → ℕ) → ℕ → ℕ
unfolding set_of some disks has place
renumbered C π S = set_of (disks C) (λ i. some (disks C) (λ d. has S d && eqb (place C π d) i))
