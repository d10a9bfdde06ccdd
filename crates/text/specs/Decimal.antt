-- A number in decimal, as bytes of ASCII.
-- Assumes nothing.
use Rattle.std.specs.Prelude.{List, [], ◌∷◌, ◌++◌, ℕ, zero, suc, ◌+◌, ◌/◌, ◌%◌}

-- the decimal digits of a number in ASCII, no leading zero, so none of 0: the last `most` of them, where there are more
unfoldable pub digits : ℕ → ℕ → List ℕ
digits zero n = []
digits (suc most) zero = []
digits (suc most) (suc n) = digits most (suc n / 10) ++ ((0x30 + suc n % 10) ∷ [])

-- n in decimal: the digits of its tenth, at most n, then its last digit, so that 0 is `0`
unfoldable pub decimal : ℕ → List ℕ
decimal n = digits n (n / 10) ++ ((0x30 + n % 10) ∷ [])

-- a space and a number
unfoldable pub spaced : ℕ → List ℕ
spaced n = 0x20 ∷ decimal n
