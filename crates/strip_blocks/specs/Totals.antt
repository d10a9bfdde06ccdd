-- The XOR of a table's entries, and of the bytes of some strips.
-- Assumes nothing.
use Rattle.std.specs.Prelude.{List, ℕ, zero, suc, ◌+◌, get_or}
use Rattle.gf2.specs.Sets.{◌⊕◌}

-- the XOR of f 0, .., f (n - 1)
unfoldable pub total : ℕ → (ℕ → ℕ) → ℕ
unfolding ◌⊕◌
total zero f = 0
total (suc n) f = total n f ⊕ f n

-- byte t of the XOR of the strips that start at the first n places
abbrev pub xor_at : ℕ → List ℕ → List ℕ → ℕ → ℕ
xor_at n at s t = total n (λ j. get_or s (get_or at j 0 + t) 0)
