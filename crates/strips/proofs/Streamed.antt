-- The strips of a set as streams: the places that `strip_blocks::Members::of_set` answers, and what is written from them.
-- Assumes nothing.
use mathlib.Core.Path.{◌≡◌, ◌∙◌}
use mathlib.Core.Logic.{◌≢◌}
use mathlib.Core.List.{List}
use Prim.Native.Nat.{ℕ, ◌+◌, ◌*◌, ◌^◌, ◌≤◌, ◌<◌}
use native.Mathlib.Omega.{arith}
use lib.Dec.{T}
use lib.ListN.{length, get_or}
use Rattle.gf2.specs.Sets.{has, over}
use Rattle.flat.specs.Lists.{tabulate, put}
use Rattle.flat.specs.Strips.{byte_of}
use Rattle.flat.specs.Repairs.{filled}
use Rattle.flat.proofs.Lists.{length-tabulate, get_d_tabulate}
use Rattle.flat.proofs.Positions.{strips-apart}
use Rattle.strip_blocks.specs.Totals.{total, xor_at}
use Rattle.strip_blocks.proofs.Placed.{place_inside}
use Rattle.strip_blocks.specs.Places.{Inside, Apart}
use Rattle.strips.proofs.OneStrip.{strip-put}

module _ (n l set : ℕ) (s at : List ℕ) (count : ℕ) where
  -- the places are in the slice, and apart from the strip of a disk that is not in the set
  module _ (strips : (j : ℕ) → j < count → (i : ℕ) × (i < n) × T (has set i) × (get_or at j 0 ≡ i * l)) where
    pub places-inside : n * l ≤ length s → Inside s l at count
    places-inside fits j h = let p = strips j h in omega (arith, place_inside n l p.0 (get_or at j 0) p.1 p.3)

    pub places-apart : (d : ℕ) → ((i : ℕ) → i < n → T (has set i) → i ≢ d) → Apart (d * l) l at count
    places-apart d other j h = let p = strips j h in rw p.3 (strips-apart p.0 d l (other p.0 p.1 p.2))

  pub streamed_filled : ((f : ℕ → ℕ) → total count (λ j. f (get_or at j 0)) ≡ over n set (λ i. f (i * l))) → (d : ℕ) (s' : List ℕ) → 0 < l
      → d * l + l ≤ length s → s' ≡ put s (d * l) (tabulate l (xor_at count at s)) → s' ≡ filled n l (λ i. set) (2 ^ d) s
  unfolding byte_of
  streamed_filled same d s' z fits e =
      strip-put n l set d s s' (tabulate l (xor_at count at s)) z fits (length-tabulate l (xor_at count at s))
      (λ t u. get_d_tabulate l (xor_at count at s) t u ∙ same (λ p. get_or s (p + t) 0)) e
