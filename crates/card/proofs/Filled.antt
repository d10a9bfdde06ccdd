-- Arrays that are filled: the columns place by place, the wears at once.
-- Assumes nothing.
use mathlib.Core.Path.{◌≡◌, ap, ap₂, ◌∙◌}
use mathlib.Core.List.{List, ◌++◌}
use Prim.Native.Nat.{ℕ, ◌-◌}
use lib.ListN.{length, drop, replicate}
use Rattle.std.proofs.lemmas.List.{drop-replicate}
use Rattle.flat.specs.Lists.{padded}

-- a list at the front of n zeros
pub front_written : (n m : ℕ) (new xs : List ℕ) → new ≡ xs → m ≡ length xs → new ++ drop m (replicate n 0) ≡ padded n xs
unfolding padded
front_written n m new xs e l =
    ap₂ (λ (a b : List ℕ). a ++ b) e (drop-replicate m n 0 ∙ ap (λ (i : ℕ). replicate (n - i) 0) l)
