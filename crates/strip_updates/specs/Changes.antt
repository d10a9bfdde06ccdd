-- One strip rewritten among the bytes of a slice: it starts at q, and the strips that start at the first count places of a list change with
-- it. Nobody has to believe these: the updater's proofs say that they are document 02's update, and no public contract names them.
-- Assumes nothing.
use Rattle.std.specs.Prelude.{Bool, ◌&&◌, List, ℕ, ◌+◌, ◌-◌, leb, ltb, length, get_or, if◌then◌else◌}
use Rattle.gf2.specs.Sets.{◌⊕◌}
use Rattle.flat.specs.Lists.{tabulate}
use Rattle.strip_blocks.specs.Totals.{total}

-- is t one of the w bytes from o on?
unfoldable pub from : ℕ → ℕ → ℕ → Bool
from o w t = leb o t && ltb t (o + w)

-- old and new byte t of the strip at q, XORed
abbrev pub change : ℕ → List ℕ → List ℕ → ℕ → ℕ
change q new s t = get_or s (q + t) 0 ⊕ get_or new t 0

-- what byte p is XORed with as one of the strip that starts at a, where the bytes D of that strip are XORed with f
unfoldable pub share : (ℕ → Bool) → (ℕ → ℕ) → ℕ → ℕ → ℕ
share D f a p = if leb a p && D (p - a) then f (p - a) else 0

-- the slice in which the block is XORed into each strip of the list, from the strip's byte o on
unfoldable pub added : ℕ → List ℕ → ℕ → List ℕ → List ℕ → List ℕ
unfolding from ◌⊕◌ tabulate total share
added o at count block s =
    tabulate (length s) (λ p. get_or s p 0 ⊕ total count (λ j. share (from o (length block)) (λ t. get_or block (t - o) 0) (get_or at j 0) p))

-- what it is XORed with in all, as one of the strip at q and of those of the list
abbrev pub shares : (ℕ → Bool) → (ℕ → ℕ) → ℕ → List ℕ → ℕ → ℕ → ℕ
shares D f q at count p = share D f q p ⊕ total count (λ j. share D f (get_or at j 0) p)

-- the slice in which the bytes D of all these strips are XORed with old and new byte
unfoldable pub changed : (ℕ → Bool) → ℕ → List ℕ → ℕ → List ℕ → List ℕ → List ℕ
unfolding ◌⊕◌ tabulate total share
changed D q at count new s = tabulate (length s) (λ p. get_or s p 0 ⊕ shares D (change q new s) q at count p)
