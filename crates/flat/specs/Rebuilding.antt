-- Document 01, "Rebuilding".
-- A data content is a list of k * L bytes: the k data strips.
-- Assumes nothing.
use Rattle.std.specs.Prelude.{◌≡◌, Bool, ◌||◌, List, [], ◌∷◌, map, ℕ, zero, suc, ◌*◌, ◌/◌, T, eqb, length, get_or, if◌then◌else◌}
use Rattle.gf2.specs.Sets.{has}
use Rattle.flat.specs.Lists.{every, range, tabulate, filter, each, Bytes}
use Rattle.flat.specs.Cards.{Code, disks}
use Rattle.flat.specs.Strips.{byte_of, given}

-- does each disk outside S have, in the stripe, the strip that the content gives it?
unfoldable pub agrees : Code → ℕ → ℕ → List ℕ → List ℕ → Bool
unfolding every disks has byte_of given
agrees C L S stripe content =
    every (disks C) (λ i. has S i || every L (λ t. eqb (byte_of L (given C L content) t i) (byte_of L stripe t i)))

-- a data content, k strips of L bytes, that agrees with the survivors
pub record Agreeing (C : Code) (L S : ℕ) (stripe content : List ℕ) : Type 0 where
  pub strips : length content ≡ C.k * L
  pub bytes : Bytes content
  pub agree : T (agrees C L S stripe content)

-- every list of N bytes
unfoldable pub contents : ℕ → List (List ℕ)
unfolding each range
contents zero = [] ∷ []
contents (suc N) = each (λ b. map (λ c. b ∷ c) (contents N)) (range 0 256)

-- the data contents that agree with the survivors of S
unfoldable pub agreeing : Code → ℕ → ℕ → List ℕ → List (List ℕ)
unfolding filter agrees contents
agreeing C L S stripe = filter (agrees C L S stripe) (contents (C.k * L))

-- the stripe in which the strips of S become those of the first of the contents, and the others keep their bytes
unfoldable pub restored : Code → ℕ → ℕ → List ℕ → List (List ℕ) → List ℕ
unfolding tabulate disks has given
restored C L S stripe [] = stripe
restored C L S stripe (content ∷ others) =
    tabulate (disks C * L) (λ p. if has S (p / L) then get_or (given C L content) p 0 else get_or stripe p 0)
