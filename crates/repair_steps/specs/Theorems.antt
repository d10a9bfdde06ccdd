-- What a repair step does, in plain words above each statement. The proofs are those of proofs/.
-- Assumes nothing.
use Rattle.std.specs.Prelude.{◌≡◌, ◌≢◌, List, [], ℕ, ◌*◌, ◌^◌, ◌<◌, T, length}
use Rattle.gf2.specs.Sets.{has, ◌⊆◌, ◌∖◌}
use Rattle.flat.specs.Cards.{Code, disks}
use Rattle.flat.specs.Strips.{byte_of, given}
use Rattle.flat.specs.Erasures.{survivors}
use Rattle.flat.specs.Equations.{equation}
use Rattle.flat.specs.Rebuilding.{agrees, agreeing, restored}
use Rattle.flat.specs.Repairs.{filled}
use Rattle.repair_steps.specs.Steps.{xored, Repairs}

-- A step fills one strip.
abbrev pub XoredFilled : Type 0
XoredFilled = (C : Code) (L d E : ℕ) (stripe : List ℕ) → xored C L d E stripe ≡ filled (disks C) L (λ i. E) (2 ^ d) stripe

-- A step by any equation of a lost disk among the survivors is a repair: the same contents agree before and after, with d lost before and
-- not after.
abbrev pub StepAgrees : Type 0
StepAgrees =
    (C : Code) (L S d E : ℕ) (stripe : List ℕ) → length stripe ≡ disks C * L → d < disks C → T (has S d)
    → T (E ⊆ survivors C S) → T (equation C d E)
    → Repairs C L S stripe (S ∖ 2 ^ d) (xored C L d E stripe)

-- No step is a repair, and so is one repair after another.
abbrev pub RepairNone : Type 0
RepairNone = (C : Code) (L S : ℕ) (stripe : List ℕ) → Repairs C L S stripe S stripe

abbrev pub RepairBoth : Type 0
RepairBoth =
    (C : Code) (L S R Q : ℕ) (s r q : List ℕ) → Repairs C L S s R r → Repairs C L R r Q q → Repairs C L S s Q q

-- A strip that a repair restored is what each content agreeing with the survivors before gives that disk.
abbrev pub RepairGives : Type 0
RepairGives =
    (C : Code) (L S left : ℕ) (stripe new content : List ℕ) → Repairs C L S stripe left new → T (agrees C L S stripe content)
    → (i t : ℕ) → i < disks C → t < L → (T (has left i) → ⊥) → byte_of L new t i ≡ byte_of L (given C L content) t i

-- Where some content agrees, rebuilding after a repair is rebuilding at once.
abbrev pub RepairThenRebuild : Type 0
RepairThenRebuild =
    (C : Code) (L S left : ℕ) (stripe new : List ℕ) → Repairs C L S stripe left new → agreeing C L S stripe ≢ []
    → restored C L left new (agreeing C L left new) ≡ restored C L S stripe (agreeing C L S stripe)
