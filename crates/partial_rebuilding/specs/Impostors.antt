-- Wrong verdicts and wrong partial rebuilds, each told from the request's by a value. The proofs are those of proofs/Impostors.antt.
-- Assumes nothing.
use Rattle.std.specs.Prelude.{◌≡◌, List, [], ◌∷◌, ℕ, T}
use Rattle.flat.specs.Cards.{Card, edition_one, code_of}
use Rattle.flat.specs.Erasures.{fatal}
use Rattle.flat.specs.Faults.{accepted, refused, verdict_report, rebuild_report}
use Rattle.partial_rebuilding.specs.Faults.{partial_report, partial_stripe}

-- the cards of C1 and C6
abbrev pub C1 : Card
C1 = edition_one (4 ∷ 3 ∷ 7 ∷ 0 ∷ 11 ∷ 0 ∷ 13 ∷ 0 ∷ [])

abbrev pub C6 : Card
C6 = edition_one (2 ∷ 1 ∷ 1 ∷ 0 ∷ [])

-- A verdict that is always empty, always the whole set, or the whole set where it is fatal: of C1's set 15, which is fatal, disk 0 is determined,
-- and of C6's set 6 disk 2; of C1's set 127 no disk is, and of its set 7 every one. Or a verdict that takes a disk which the code lacks.
pub record VerdictTold : Type 0 where
  pub fatal_15 : T (fatal (code_of C1) 15)
  pub some_15 : verdict_report C1 15 ≡ accepted (14 ∷ [])
  pub some_6 : verdict_report C6 6 ≡ accepted (2 ∷ [])
  pub all_127 : verdict_report C1 127 ≡ accepted (127 ∷ [])
  pub none_7 : verdict_report C1 7 ≡ accepted (0 ∷ [])
  pub outside_128 : verdict_report C1 128 ≡ refused 8 []

-- C7's stripe, with other bytes in the four data strips
abbrev pub lost_four : List ℕ
lost_four = 99 ∷ 98 ∷ 97 ∷ 96 ∷ 119 ∷ 187 ∷ 221 ∷ []

-- 11 where the set is fatal, restoring nothing, zeros in the strips that can't be restored: with the four data disks lost, disk 0 gets its byte 17
-- again, and disks 1, 2 and 3 keep theirs.
pub record BringsBackOne : Type 0 where
  pub rebuild : rebuild_report C1 1 15 lost_four ≡ refused 11 []
  pub answer : partial_report C1 1 15 lost_four ≡ accepted (14 ∷ [])
  pub stripe : partial_stripe C1 1 15 lost_four ≡ 17 ∷ 98 ∷ 97 ∷ 96 ∷ 119 ∷ 187 ∷ 221 ∷ []

-- Restoring data disks alone: of C6, disks 1 and 2 are lost; the parity, disk 2, becomes disk 0's byte.
pub record BringsBackParity : Type 0 where
  pub answer : partial_report C6 1 6 (5 ∷ 9 ∷ 7 ∷ []) ≡ accepted (2 ∷ [])
  pub stripe : partial_stripe C6 1 6 (5 ∷ 9 ∷ 7 ∷ []) ≡ 5 ∷ 9 ∷ 5 ∷ []

-- No look at the survivors of a fatal set: of C6, disk 1 is lost and in no column; disks 0 and 2, which hold the same, differ.
pub record TwelveIfFatal : Type 0 where
  pub rebuild : rebuild_report C6 1 2 (5 ∷ 9 ∷ 6 ∷ []) ≡ refused 11 []
  pub answer : partial_report C6 1 2 (5 ∷ 9 ∷ 6 ∷ []) ≡ refused 12 []
