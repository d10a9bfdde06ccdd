-- What a caller makes of `tested`, and of `restore`: its answer tells whether some content agrees, and where the targets are determined, what it
-- leaves in the stripe is document 01's restoring.
-- Assumes nothing.
use mathlib.Core.Path.{◌≡◌, refl, sym, ap, ◌∙◌}
use mathlib.Core.Bool.{Bool, true, false}
use mathlib.Core.Logic.{◌≢◌, ⊎_elim}
use mathlib.Core.List.{List, [], ◌∷◌, cons≢nil}
use Prim.Native.Nat.{ℕ, ◌*◌, ◌≤◌}
use native.Mathlib.Omega.{arith}
use lib.Dec.{T}
use lib.ListN.{length}
use Rattle.std.specs.Prelude.{if◌then◌else◌}
use Rattle.gf2.specs.Sets.{◌⊆◌}
use Rattle.gf2.proofs.Tests.{true-T, false-T}
use Rattle.flat.specs.Lists.{Bytes}
use Rattle.flat.specs.Cards.{Code, disks}
use Rattle.flat.specs.Erasures.{determined_set}
use Rattle.flat.specs.Rebuilding.{agreeing, restored}
use Rattle.flat.specs.Repairs.{filled, consistent, equation_among}
use Rattle.flat.specs.Faults.{Report, accepted, stripe_tests}
use Rattle.flat.proofs.Tested.{Passed, tests_passed}
use Rattle.flat.proofs.Agreement.{agreeing_cases}
use Rattle.flat.proofs.Theorems.{consistent-agrees, restored-filled}

-- ---- the tests

-- where they let everything pass, they passed
pub all_passed : (C : Code) (L S n : ℕ) → ((next : Report) → next ≡ stripe_tests C L S n next) → Passed C L S n
all_passed C L S n h = tests_passed C L S n (accepted []) (ap (λ (r : Report). r.number) (sym (h (accepted []))))

-- ---- whether some content agrees, and the strips

module _ (C : Code) (L S : ℕ) (stripe : List ℕ) (long : 1 ≤ L) (bytes : Bytes stripe) (r : Bool) (e : r ≡ consistent C L S stripe) where
  some-agrees : r ≡ true → agreeing C L S stripe ≢ []
  some-agrees t = (consistent-agrees C L S stripe (omega arith) bytes).0 (true-T {b = consistent C L S stripe} (sym e ∙ t))

  none-agrees : r ≡ false → agreeing C L S stripe ≢ [] → ⊥
  none-agrees f some = false-T {b = consistent C L S stripe} (sym e ∙ f) ((consistent-agrees C L S stripe (omega arith) bytes).1 some)

  -- a report that goes by the contents that agree
  pub none-report : (report : List (List ℕ) → Report) → r ≡ false → report [] ≡ report (agreeing C L S stripe)
  none-report report f =
      ⊎_elim (λ q. sym (ap report q)) (λ (c, cs, q). absurd (none-agrees f (λ z. cons≢nil (sym q ∙ z)))) (agreeing_cases C L S stripe)

  pub some-report : (report : List (List ℕ) → Report) (told : Report) → ((c : List ℕ) (cs : List (List ℕ)) → told ≡ report (c ∷ cs)) → r ≡ true
      → told ≡ report (agreeing C L S stripe)
  some-report report told is t = ⊎_elim (λ q. absurd (some-agrees t q)) (λ (c, cs, q). is c cs ∙ sym (ap report q)) (agreeing_cases C L S stripe)

  pub restored-some : (D : ℕ) (after : List ℕ) → length stripe ≡ disks C * L → T (D ⊆ determined_set C S) → r ≡ true
      → after ≡ (if r then filled (disks C) L (equation_among C S) D stripe else stripe) → after ≡ restored C L D stripe (agreeing C L S stripe)
  restored-some D after whole told t q = q ∙ rw t (sym (restored-filled C L S D stripe whole told (some-agrees t)))

-- and where none agrees, the stripe stays
pub kept-none : (stripe new after : List ℕ) (r : Bool) → r ≡ false → after ≡ (if r then new else stripe) → after ≡ stripe
kept-none stripe new after r f q = q ∙ rw f refl
