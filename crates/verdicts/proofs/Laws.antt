-- The verdict's report at each way out.
-- Assumes nothing.
use mathlib.Core.Path.{◌≡◌, sym, ap, ◌∙◌}
use mathlib.Core.Bool.{Bool, true, false}
use mathlib.Core.List.{List, [], ◌∷◌}
use Prim.Native.Nat.{ℕ, ◌^◌}
use lib.Dec.{ltb}
use Rattle.gf2.specs.Sets.{union}
use Rattle.gf2.specs.Within.{within}
use Rattle.flat.specs.Cards.{Code, disks, set_ok}
use Rattle.flat.specs.Spans.{rows}
use Rattle.flat.specs.Faults.{accepted, refused, verdict_tests}
use Rattle.repairs.proofs.Callers.{undetermined-is}

module _ (C : Code) (S n : ℕ) (inside : Bool) (count : n ≡ disks C) (tested : inside ≡ ltb S (2 ^ n)) where
  test : inside ≡ ltb S (2 ^ disks C)
  test = tested ∙ ap (λ (a : ℕ). ltb S (2 ^ a)) count

  pub outside : inside ≡ false → refused 8 [] ≡ verdict_tests C S
  unfolding verdict_tests set_ok
  outside e = simp (sym test ∙ e)

  pub undetermined-report : inside ≡ true → (bs : List ℕ) (r : ℕ) → bs ≡ rows C → r ≡ union (within S bs) → accepted (r ∷ []) ≡ verdict_tests C S
  unfolding verdict_tests set_ok
  undetermined-report e bs r is q = simp (sym test ∙ e, q ∙ undetermined-is C S bs is)
