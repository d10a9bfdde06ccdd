-- Rows of disks below n of which each has a disk of its own, as the rows and the checks of a code do.
-- Assumes nothing.
use Rattle.std.specs.Prelude.{◌≡◌, ◌≢◌, List, ℕ, ◌^◌, ◌<◌, length, get_or}
use Rattle.gf2.specs.Sets.{bit}

pub record Systematic (n : ℕ) (bs : List ℕ) : Type 0 where
  -- the disk that row i alone has
  pub own : ℕ → ℕ
  pub has_own : (i : ℕ) → i < length bs → bit (get_or bs i 0) (own i) ≡ 1
  pub lacks_other : (i j : ℕ) → i < length bs → j < length bs → i ≢ j → bit (get_or bs j 0) (own i) ≡ 0
  pub below : (i : ℕ) → i < length bs → get_or bs i 0 < 2 ^ n
