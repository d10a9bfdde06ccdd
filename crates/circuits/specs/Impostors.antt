-- Two wrong lists and a wrong bound, and the claim that each fails, at document 01's worked codes. The proofs are those of proofs/Impostors.antt.
-- Assumes nothing.
use Rattle.std.specs.Prelude.{◌≡◌, true, ◌≢◌, [], ◌∷◌, ℕ, ◌+◌, T}
use Rattle.gf2.specs.Sets.{has, first, ◌⊕◌}
use Rattle.flat.specs.Lists.{member}
use Rattle.flat.specs.Erasures.{erasures}
use Rattle.worked.specs.Table.{C1, C3, C4}
use Rattle.worked.specs.Impostors.{every_word, up_to_m}
use Rattle.circuits.specs.Circuits.{NoneInside, NoneLarger, TwoMakeThird, Circuits}

-- With C3's 15 listed, as it is where every XOR of rows is, 5 lies inside it.
abbrev pub NotEveryWord : Type 0
NotEveryWord = NoneInside (every_word C3.of) → ⊥

-- m in place of m + 1: C4's one entry has m + 1 disks.
abbrev pub LargerThanM : Type 0
LargerThanM = NoneLarger C4.of.m (erasures C4.of) → ⊥

-- Of C1's list cut at size m, no entry lies within the disks of just one of 50 and 67.
abbrev pub NotUpToM : Type 0
NotUpToM = TwoMakeThird (up_to_m C1.of) → ⊥

-- These disks are 113, and the whole list has it.
abbrev pub Third : Type 0
Third = (50 ⊕ 67 ≡ 113) × (member 113 (erasures C1.of) ≡ true)

-- So the record refuses both lists, whatever m is, and for every m a list whose one set has m + 2 disks.
abbrev pub Refused : Type 0
Refused =
    ((m : ℕ) → Circuits m (every_word C3.of) → ⊥)
    × ((m : ℕ) → Circuits m (first (m + 2) ∷ []) → ⊥)
    × ((m : ℕ) → Circuits m (up_to_m C1.of) → ⊥)

-- Nor are any two sets that overlap the whole list: neither of them is the third.
abbrev pub NotTwo : Type 0
NotTwo = (m R S d : ℕ) → R ≢ S → T (has R d) → T (has S d) → Circuits m (R ∷ S ∷ []) → ⊥
