-- Wrong rules, each told from the request's by C1's code. The proofs are those of proofs/Impostors.antt.
-- Assumes nothing.
use Rattle.std.specs.Prelude.{◌≡◌, Bool, List, [], ◌∷◌, ℕ, zero, suc, ◌^◌, get_or, if◌then◌else◌}
use Rattle.gf2.specs.Sets.{◌∖◌}
use Rattle.flat.specs.Cards.{Code, code, disks}
use Rattle.flat.specs.Checks.{check}
use Rattle.repair_steps.specs.Steps.{xored}
use Rattle.peeling.specs.Peeling.{lone, peelable, next_disk, less_next, with_next}

-- the highest number below n that has p, or n where none has
unfoldable pub highest_of : ℕ → ℕ → (ℕ → Bool) → ℕ
highest_of none zero p = none
highest_of none (suc n) p = if p n then n else highest_of none n p

-- a step by the highest check of its disk
unfoldable pub by_highest : Code → ℕ → ℕ → List ℕ → List ℕ
unfolding xored ◌∖◌ check next_disk highest_of lone
by_highest C L S stripe =
    xored C L (next_disk C S) (check C (highest_of C.m C.m (lone C S (next_disk C S))) ∖ 2 ^ next_disk C S) stripe

-- a step of the highest lone disk
unfoldable pub less_highest : Code → ℕ → ℕ
unfolding ◌∖◌ disks highest_of peelable
less_highest C S = S ∖ 2 ^ highest_of (disks C) (disks C) (peelable C S)

abbrev pub C1 : Code
C1 = code 4 3 (7 ∷ 11 ∷ 13 ∷ [])

-- C7's stripe with one bit of parity disk 4 spoiled
abbrev pub spoiled : List ℕ
spoiled = 0 ∷ 34 ∷ 68 ∷ 136 ∷ 118 ∷ 187 ∷ 221 ∷ []

-- Disk 0 of it becomes 0x10 by check 0, and 0x11 by check 2.
abbrev pub LowestCheck : Type 0
LowestCheck = (get_or (with_next C1 1 1 spoiled) 0 0 ≡ 16) × (get_or (by_highest C1 1 1 spoiled) 0 0 ≡ 17)

-- Of disks 4 and 5 a step takes 4 and leaves 5; that of the highest lone disk leaves 4.
abbrev pub LowestDisk : Type 0
LowestDisk = (less_next C1 48 ≡ 32) × (less_highest C1 48 ≡ 16)
