-- How long the lines are, and at most; how long a listing is.
-- Assumes nothing.
use mathlib.Core.Path.{◌≡◌}
use mathlib.Core.List.{List, [], ◌∷◌}
use Prim.Native.Nat.{ℕ, suc, ◌+◌, ◌*◌, ◌^◌, ◌≤◌, ◌<◌}
use native.Mathlib.Omega.{arith}
use lib.ListN.{length, length-append}
use lib.Pow.{pow_mono}
use Rattle.gf2.specs.Sets.{size}
use Rattle.gf2.proofs.Sizes.{size_lt}
use Rattle.flat.specs.Lists.{each}
use Rattle.flat.proofs.Members.{In}
use Rattle.text.specs.Decimal.{decimal, spaced}
use Rattle.text.specs.Lines.{line, entry_line}
use Rattle.text.specs.Text.{code_word, vector_word, listing_text}
use Rattle.text.proofs.Digits.{length_most, length-spaced}
use Rattle.text.proofs.Pieces.{each-most}

pub length-entry : (S : ℕ) → length (entry_line S) ≡ length (decimal (size S)) + length (decimal S) + 2
unfolding entry_line
length-entry S = simp (length-append, length-spaced) (omega arith)

pub length-line : (word numbers : List ℕ) → length (line word numbers) ≡ length word + length (each spaced numbers) + 1
unfolding line
length-line word numbers = simp length-append (omega arith)

-- ---- at most

-- a set of at most 32 disks: two digits, a space, ten digits and the line end
pub entry-most : (n S : ℕ) → n ≤ 32 → S < 2 ^ n → length (entry_line S) ≤ 14
entry-most n S h l =
    omega (
      arith,
      length-entry S,
      length_most 1 (size S) (omega (arith, size_lt n S l)),
      length_most 9 S (omega (arith, pow_mono {i = n} {j = 32} h)),
    )

-- numbers of at most b digits
pub line-most : (b : ℕ) (word numbers : List ℕ) → ((v : ℕ) → In v numbers → length (decimal v) ≤ b)
    → length (line word numbers) ≤ length word + suc b * length numbers + 1
line-most b word numbers h =
    omega (arith, length-line word numbers, each-most spaced (suc b) numbers (λ v t. omega (arith, length-spaced v, h v t)))

-- ---- the whole

pub length-listing : (k m : ℕ) (entries vs : List ℕ)
    → length (listing_text k m entries vs) ≡ length (line code_word (k ∷ m ∷ [])) + length (each entry_line entries) + length (line vector_word vs)
unfolding listing_text
length-listing k m entries vs = simp length-append
