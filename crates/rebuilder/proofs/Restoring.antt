-- The disks' report at each way out, and the stripe that is restored, by what the rows and `restorer::restore` told.
-- Assumes nothing.
use mathlib.Core.Path.{◌≡◌, refl, sym, subst}
use mathlib.Core.Bool.{Bool, true, false}
use mathlib.Core.Logic.{◌≢◌}
use mathlib.Core.List.{List, [], ◌∷◌}
use Prim.Native.Nat.{ℕ, ◌*◌, ◌≤◌}
use lib.Dec.{T}
use lib.ListN.{length}
use Rattle.std.specs.Prelude.{if◌then◌else◌}
use Rattle.gf2.specs.Sets.{size, ◌⊆◌, union}
use Rattle.gf2.specs.Within.{within}
use Rattle.gf2.proofs.Tests.{T_true, T_false}
use Rattle.gf2.proofs.Subsets.{⊆-refl}
use Rattle.flat.specs.Lists.{Bytes}
use Rattle.flat.specs.Cards.{Code, disks}
use Rattle.flat.specs.Erasures.{fatal}
use Rattle.flat.specs.Spans.{rows}
use Rattle.flat.specs.Rebuilding.{agreeing, restored}
use Rattle.flat.specs.Repairs.{filled, consistent, equation_among}
use Rattle.flat.specs.Faults.{Report, accepted, refused, survivors_report, disks_report}
use Rattle.flat.proofs.Undetermined.{all-determined}
use Rattle.repairs.proofs.Callers.{undetermined-fatal}
use Rattle.restorer.proofs.Callers.{none-report, some-report, restored-some}

past_fatal : (C : Code) (L S : ℕ) (stripe : List ℕ) → (T (fatal C S) → ⊥) → {r : Report} → r ≡ survivors_report S (agreeing C L S stripe)
    → r ≡ disks_report C L S stripe
unfolding disks_report
past_fatal C L S stripe f e = simp (T_false {b = fatal C S} f) e

module _ (C : Code) (L S : ℕ) (stripe : List ℕ) where
  -- by the undetermined disks
  module _ (bs : List ℕ) (r : ℕ) (is : bs ≡ rows C) (e : r ≡ union (within S bs)) where
    pub fatal-report : r ≢ 0 → refused 11 [] ≡ disks_report C L S stripe
    unfolding disks_report
    fatal-report f = simp (T_true {b = fatal C S} ((undetermined-fatal C S bs r is e).1 f))

    pub recoverable : r ≡ 0 → T (fatal C S) → ⊥
    recoverable z t = (undetermined-fatal C S bs r is e).0 t z

  -- by the answer of `restore`, and what it leaves
  module _ (safe : T (fatal C S) → ⊥) (long : 1 ≤ L) (bytes : Bytes stripe) (r : Bool) (e : r ≡ consistent C L S stripe) where
    pub inconsistent_report : r ≡ false → refused 12 [] ≡ disks_report C L S stripe
    unfolding survivors_report
    inconsistent_report f = past_fatal C L S stripe safe (none-report C L S stripe long bytes r e (survivors_report S) f)

    pub restored-report : r ≡ true → accepted (size S ∷ []) ≡ disks_report C L S stripe
    unfolding survivors_report
    restored-report t =
        past_fatal C L S stripe safe (some-report C L S stripe long bytes r e (survivors_report S) (accepted (size S ∷ [])) (λ c cs. refl) t)

    pub all-restored : (after : List ℕ) → length stripe ≡ disks C * L → r ≡ true
        → after ≡ (if r then filled (disks C) L (equation_among C S) S stripe else stripe) → after ≡ restored C L S stripe (agreeing C L S stripe)
    all-restored after whole t q =
        restored-some C L S stripe long bytes r e S after whole (subst (λ (D : ℕ). T (S ⊆ D)) (sym (all-determined C S safe)) (⊆-refl S)) t q
