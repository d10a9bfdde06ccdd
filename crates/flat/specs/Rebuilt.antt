-- What rebuilding is, in plain words above each statement. The proofs are those of proofs/Theorems.antt.
-- Assumes nothing.
use Rattle.std.specs.Prelude.{◌≡◌, ◌≢◌, ◌↔◌, List, [], ℕ, ◌*◌, ◌<◌, T, length}
use Rattle.gf2.specs.Sets.{has, ◌⊆◌}
use Rattle.flat.specs.Lists.{Bytes}
use Rattle.flat.specs.Cards.{Code, Card, code_of, disks}
use Rattle.flat.specs.Strips.{byte_of, given}
use Rattle.flat.specs.Erasures.{survivors, fatal, undetermined_set, determined_set}
use Rattle.flat.specs.Equations.{equation}
use Rattle.flat.specs.Rebuilding.{agrees, agreeing, restored}
use Rattle.flat.specs.Faults.{rebuild_report, rebuild_stripe}
use Rattle.flat.specs.Repairs.{filled, consistent, equation_among}

-- For every set, fatal or not: some content agrees with the survivors exactly where the check words among them vanish.
abbrev pub ConsistentAgrees : Type 0
ConsistentAgrees =
    (C : Code) (L S : ℕ) (stripe : List ℕ) → 0 < L → Bytes stripe
    → T (consistent C L S stripe) ↔ (agreeing C L S stripe ≢ [])

-- Contents that agree give each disk that is not undetermined one strip.
abbrev pub OneStrip : Type 0
OneStrip =
    (C : Code) (L S : ℕ) (stripe a b : List ℕ) → T (agrees C L S stripe a) → T (agrees C L S stripe b)
    → (d t : ℕ) → d < disks C → t < L → (T (has (undetermined_set C S) d) → ⊥) → byte_of L (given C L a) t d ≡ byte_of L (given C L b) t d

-- So where the set is not fatal, at most one content agrees.
abbrev pub OnlyContent : Type 0
OnlyContent =
    (C : Code) (L S : ℕ) (stripe a b : List ℕ) → (T (fatal C S) → ⊥) → length a ≡ C.k * L → length b ≡ C.k * L
    → T (agrees C L S stripe a) → T (agrees C L S stripe b) → a ≡ b

-- Each determined lost disk has an equation among the survivors: the one that `within` leaves.
abbrev pub EquationLeft : Type 0
EquationLeft =
    (C : Code) (S d : ℕ) → d < disks C → T (has (determined_set C S) d)
    → T (equation_among C S d ⊆ survivors C S) × T (equation C d (equation_among C S d))

-- Of an undetermined disk it leaves none.
abbrev pub NoEquationLeft : Type 0
NoEquationLeft = (C : Code) (S d : ℕ) → T (has (undetermined_set C S) d) → equation_among C S d ≡ 0

-- Where some content agrees, restoring determined disks, all or some, fills their strips, each by its equation.
abbrev pub RestoredFilled : Type 0
RestoredFilled =
    (C : Code) (L S D : ℕ) (stripe : List ℕ) → length stripe ≡ disks C * L → T (D ⊆ determined_set C S)
    → agreeing C L S stripe ≢ [] → restored C L D stripe (agreeing C L S stripe) ≡ filled (disks C) L (equation_among C S) D stripe

-- Where the set is not fatal, each lost disk is determined: it has an equation among the survivors, and rebuilding fills all lost strips.
abbrev pub AllDetermined : Type 0
AllDetermined = (C : Code) (S : ℕ) → (T (fatal C S) → ⊥) → determined_set C S ≡ S

abbrev pub EachEquationLeft : Type 0
EachEquationLeft =
    (C : Code) (S d : ℕ) → (T (fatal C S) → ⊥) → d < disks C → T (has S d)
    → T (equation_among C S d ⊆ survivors C S) × T (equation C d (equation_among C S d))

abbrev pub AllRestoredFilled : Type 0
AllRestoredFilled =
    (C : Code) (L S : ℕ) (stripe : List ℕ) → length stripe ≡ disks C * L → (T (fatal C S) → ⊥)
    → agreeing C L S stripe ≢ [] → restored C L S stripe (agreeing C L S stripe) ≡ filled (disks C) L (equation_among C S) S stripe

-- Bytes of lost strips at entry affect neither the answer nor a strip that is rebuilt.
abbrev pub LostBytesUnread : Type 0
LostBytesUnread =
    (card : Card) (L S : ℕ) (stripe other : List ℕ) → length stripe ≡ length other
    → ((i t : ℕ) → i < disks (code_of card) → (T (has S i) → ⊥) → t < L → byte_of L stripe t i ≡ byte_of L other t i)
    → (rebuild_report card L S stripe ≡ rebuild_report card L S other)
    × ((rebuild_report card L S stripe).number ≡ 0
    → (i t : ℕ) → i < disks (code_of card) → T (has S i) → t < L
    → byte_of L (rebuild_stripe card L S stripe) t i ≡ byte_of L (rebuild_stripe card L S other) t i)
