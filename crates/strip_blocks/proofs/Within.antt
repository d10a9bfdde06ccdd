-- What a strip of one of n disks keeps to the n strips, for the checks' own search.
-- Assumes nothing.
use mathlib.Core.Path.{◌≡◌}
use mathlib.Core.Logic.{◌≢◌}
use Prim.Native.Nat.{ℕ, ◌+◌, ◌*◌, ◌^◌, ◌≤◌, ◌<◌}
use Rattle.gf2.specs.Sets.{◌∖◌}
use Rattle.gf2.specs.Within.{lowest}
use Rattle.flat.proofs.Positions.{strip-within}
use Rattle.strip_blocks.proofs.Walked.{next-lowest}

-- the strip of a disk below n
pub strip_fits : (n l i : ℕ) → i < n → i * l + l ≤ n * l
strip_fits n l i h = strip-within i n l h

-- the strip of the lowest disk of a set of disks below n
pub lowest_fits : (n l left i : ℕ) → left ≢ 0 → left < 2 ^ n → i ≡ lowest left → i * l + l ≤ n * l
lowest_fits n l left i f h e = strip-within i n l (next-lowest n left i f h e).below

-- the set without it is smaller
pub lowest_less : (n left i : ℕ) → left ≢ 0 → left < 2 ^ n → i ≡ lowest left → left ∖ 2 ^ i < left
lowest_less n left i f h e = (next-lowest n left i f h e).less
