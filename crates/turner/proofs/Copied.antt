-- Two copies make the stripe that is turned.
-- Assumes nothing.
use mathlib.Core.Path.{◌≡◌, ap, ◌∙◌}
use mathlib.Core.List.{List, ◌++◌}
use Prim.Native.Nat.{ℕ, ◌-◌, ◌≤◌}
use native.Mathlib.Omega.{arith}
use lib.ListN.{length, take, drop, length-append, length-drop}
use lib.Seq.{length-take-le}
use Rattle.flat.specs.Lists.{put}
use Rattle.flat.proofs.Lists.{rest, put_next, put_whole}
use Rattle.turning.specs.Slots.{cut}

-- the part from a place on, and then, at b, the part before that place
pub copied : (out stripe first both : List ℕ) (at b : ℕ) → at ≤ length stripe → length out ≡ length stripe
    → first ≡ put out 0 (take (length stripe - at) (drop at stripe)) → both ≡ put first b (take at stripe) → b ≡ length stripe - at → both ≡ cut at stripe
unfolding cut
copied out stripe first both at b l e p q is =
    let d = rest at stripe in
    let n : length (drop at stripe) ≡ length stripe - at = length-drop at stripe in
    q ∙ ap (λ (s : List ℕ). put s b (take at stripe)) (p ∙ ap (put out 0) d)
    ∙ put_next out 0 b (drop at stripe) (take at stripe) (omega arith) (omega arith)
    ∙ put_whole out (drop at stripe ++ take at stripe)
    (length-append (drop at stripe) (take at stripe) ∙ omega (arith, length-take-le at stripe l))
