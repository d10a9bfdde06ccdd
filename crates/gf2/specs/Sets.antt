-- Sets of disks as numbers: disk i is in a set where bit i of its number is 1.
-- Every natural number is a set here; the code's sets have 32 bits.
-- Assumes nothing.
use Rattle.std.specs.Prelude.{Bool, not, ◌&&◌, List, [], ◌∷◌, ℕ, zero, suc, ◌+◌, ◌-◌, ◌/◌, ◌%◌, ◌^◌, eqb, if◌then◌else◌}
use Rattle.std.specs.Int.Bits.{bit_and, bit_or, bit_xor}
use Rattle.std.specs.Int.Count.{ones}

infixl 60 ◌⊕◌
infixl 60 ◌∖◌
infixl 60 ◌∪◌
infixl 70 ◌∩◌
infix 40 ◌⊆◌
infix 40 ◌⊂◌
-- bit i of n, 0 or 1
unfoldable pub bit : ℕ → ℕ → ℕ
bit n i = n / 2 ^ i % 2

-- is disk i in S?
unfoldable pub has : ℕ → ℕ → Bool
unfolding bit
has S i = eqb (bit S i) 1

-- how many disks S holds: the count of ones of its number
unfoldable pub size : ℕ → ℕ
unfolding ones
size S = ones S

-- the disks below n
unfoldable pub first : ℕ → ℕ
first n = 2 ^ n - 1

-- the disks below n of which p holds
unfoldable pub set_of : ℕ → (ℕ → Bool) → ℕ
set_of zero p = 0
set_of (suc n) p = set_of n p + (if p n then 2 ^ n else 0)

-- the disks that are in both
unfoldable pub ◌∩◌ : ℕ → ℕ → ℕ
R ∩ S = bit_and R S

-- the disks that are in one of the two or in both
unfoldable pub ◌∪◌ : ℕ → ℕ → ℕ
R ∪ S = bit_or R S

-- the disks that are in some set of a list
unfoldable pub union : List ℕ → ℕ
unfolding ◌∪◌
union [] = 0
union (S ∷ Ss) = S ∪ union Ss

-- the disks that are in just one of the two; of bits and bytes, their XOR
unfoldable pub ◌⊕◌ : ℕ → ℕ → ℕ
a ⊕ b = bit_xor a b

-- the disks of R that are not in S
unfoldable pub ◌∖◌ : ℕ → ℕ → ℕ
unfolding ◌⊕◌ ◌∩◌
R ∖ S = R ⊕ R ∩ S

-- is every disk of R in S?
unfoldable pub ◌⊆◌ : ℕ → ℕ → Bool
unfolding ◌∩◌
R ⊆ S = eqb (R ∩ S) R

-- is R inside S, and not S itself?
unfoldable pub ◌⊂◌ : ℕ → ℕ → Bool
unfolding ◌⊆◌
R ⊂ S = not (eqb R S) && (R ⊆ S)

-- the XOR of f i over the disks i of S below n
unfoldable pub over : ℕ → ℕ → (ℕ → ℕ) → ℕ
unfolding ◌⊕◌ has
over zero S f = 0
over (suc n) S f = over n S f ⊕ (if has S n then f n else 0)
