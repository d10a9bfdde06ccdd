-- Laws for the proofs of the code: the first word that holds a disk.
-- Assumes nothing.
use Rattle.std.proofs.Common.{◌≡◌, refl, Bool, true, false, List, [], ◌∷◌, ℕ, cond, Some}
use Rattle.std.specs.List.{find}
use Rattle.std.specs.Option.{unwrap_or}
use Rattle.std.specs.Prelude.{if◌then◌else◌}
use Rattle.gf2.specs.Sets.{has}
use Rattle.flat.specs.Repairs.{holder}

pub found-holder : (d : ℕ) (words : List ℕ) → unwrap_or (find (λ w. has w d) words) 0 ≡ holder d words
unfolding holder
found-holder d [] = refl
found-holder d (w ∷ words) = go (has w d) (found-holder d words)
  where
    go : (b : Bool) → unwrap_or (find (λ v. has v d) words) 0 ≡ holder d words
        → unwrap_or (cond b (Some w) (find (λ v. has v d) words)) 0 ≡ (if b then w else holder d words)
    go true e = refl
    go false e = e
