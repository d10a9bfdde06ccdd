-- Spans over GF(2): a row is a number, and the span of some rows holds each XOR of some of them.
-- Assumes nothing.
use Rattle.std.specs.Prelude.{◌≡◌, ◌⊎◌, ◌≢◌, List, [], ◌∷◌, ℕ, T, length, get_or}
use Rattle.gf2.specs.Sets.{◌⊕◌, ◌⊆◌, over}

-- w is the XOR of some of the rows
abbrev pub InSpan : List ℕ → ℕ → Type 0
InSpan [] w = w ≡ 0
InSpan (b ∷ bs) w = InSpan bs w ⊎ InSpan bs (b ⊕ w)

-- no row is the XOR of some of the later ones
abbrev pub Independent : List ℕ → Type 0
Independent [] = Unit {0}
Independent (b ∷ bs) = Independent bs × ¬ InSpan bs b

-- the XOR of the rows that x selects: row i where bit i of x is 1
unfoldable pub select : List ℕ → ℕ → ℕ
unfolding over
select bs x = over (length bs) x (λ i. get_or bs i 0)

-- w is a word of the span, not 0, and the only such word inside itself
pub record Minimal (bs : List ℕ) (w : ℕ) : Type 0 where
  pub word : InSpan bs w
  pub nonzero : w ≢ 0
  pub alone : (v : ℕ) → InSpan bs v → v ≢ 0 → T (v ⊆ w) → v ≡ w
