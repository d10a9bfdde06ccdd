-- The library's comparison of two slices is that of the definitions.
-- Assumes nothing.
use mathlib.Core.Path.{◌≡◌, refl, sym, ap, ap₂, ◌∙◌}
use mathlib.Core.Bool.{◌&&◌}
use mathlib.Core.List.{List, [], ◌∷◌}
use Prim.Native.Nat.{ℕ, ◌-◌}
use lib.Dec.{eqb}
use lib.ListN.{length, take, drop, length-drop}
use lib.Pointwise.{pointwise}
use lib.Seq.{take-length}
use Rattle.std.specs.List.{starts_with}
use Rattle.gf2.proofs.Tests.{eqb_sym}
use Rattle.flat.specs.Lists.{same}

pointwise-same : (xs ys : List ℕ) → pointwise eqb ys xs ≡ same xs ys
unfolding same
pointwise-same [] [] = refl
pointwise-same [] (y ∷ ys) = refl
pointwise-same (x ∷ xs) [] = refl
pointwise-same (x ∷ xs) (y ∷ ys) = ap₂ ◌&&◌ (eqb_sym y x) (pointwise-same xs ys)

-- the rest of a slice begins with the wanted bytes
pub rest-starts : (s : List ℕ) (at : ℕ) (wanted : List ℕ)
    → starts_with eqb (take (length s - at) (drop at s)) wanted ≡ same (take (length wanted) (drop at s)) wanted
rest-starts s at wanted =
    let rest : take (length s - at) (drop at s) ≡ drop at s = rw (sym (length-drop at s)) (take-length (drop at s)) in
    ap (λ (xs : List ℕ). starts_with eqb xs wanted) rest ∙ pointwise-same (take (length wanted) (drop at s)) wanted
