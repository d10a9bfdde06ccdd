-- The words that the definitions are written in: tests over the numbers below a bound and their rearrangements, lists made from numbers, and bytes.
-- Assumes nothing.
use Rattle.std.specs.Prelude.{◌≡◌, Bool, true, false, ◌&&◌, ◌||◌, List, [], ◌∷◌, ◌++◌, ℕ, zero, suc, ◌+◌, ◌-◌, ◌*◌, ◌/◌, ◌%◌, ◌<◌, eqb, length, get_or, take, drop, replicate, if◌then◌else◌}
unfoldable pub use Rattle.gf2.specs.Sets.{set_of}

-- does p hold of some number below n?
unfoldable pub some : ℕ → (ℕ → Bool) → Bool
some zero p = false
some (suc n) p = some n p || p n

-- does p hold of every number below n?
unfoldable pub every : ℕ → (ℕ → Bool) → Bool
every zero p = true
every (suc n) p = every n p && p n

-- how many numbers below n have p
unfoldable pub count : ℕ → (ℕ → Bool) → ℕ
count zero p = 0
count (suc n) p = count n p + (if p n then 1 else 0)

-- a, a + 1, .., a + n - 1
unfoldable pub range : ℕ → ℕ → List ℕ
range a zero = []
range a (suc n) = a ∷ range (suc a) n

-- f 0, .., f (n - 1)
unfoldable pub tabulate : ℕ → (ℕ → ℕ) → List ℕ
tabulate zero f = []
tabulate (suc n) f = f 0 ∷ tabulate n (λ i. f (suc i))

module _ {A : Type 0} where
  -- those of which p holds
  unfoldable pub filter : (A → Bool) → List A → List A
  filter p [] = []
  filter p (x ∷ xs) = if p x then x ∷ filter p xs else filter p xs

  -- the lists f x for each x, one after the other
  unfoldable pub each : (ℕ → List A) → List ℕ → List A
  each f [] = []
  each f (x ∷ xs) = f x ++ each f xs

-- ordered by a key below b, smaller first; entries of equal key keep their order
unfoldable pub ordered_by : (ℕ → ℕ) → ℕ → List ℕ → List ℕ
unfolding each filter range
ordered_by key b xs = each (λ v. filter (λ x. eqb (key x) v) xs) (range 0 b)

-- the sum of numbers
unfoldable pub sum : List ℕ → ℕ
sum [] = 0
sum (x ∷ xs) = x + sum xs

-- are the two lists equal?
unfoldable pub same : List ℕ → List ℕ → Bool
same [] [] = true
same [] (y ∷ ys) = false
same (x ∷ xs) [] = false
same (x ∷ xs) (y ∷ ys) = eqb x y && same xs ys

-- is x in the list?
unfoldable pub member : ℕ → List ℕ → Bool
member x [] = false
member x (y ∷ ys) = eqb x y || member x ys

-- π rearranges the numbers below n: each goes to one of them, and no two to one
pub record Permutes (n : ℕ) (π : ℕ → ℕ) : Type 0 where
  pub below : (i : ℕ) → i < n → π i < n
  pub distinct : (i j : ℕ) → i < n → j < n → π i ≡ π j → i ≡ j

-- n places: the list, then zeros
unfoldable pub padded : ℕ → List ℕ → List ℕ
padded n xs = xs ++ replicate (n - length xs) 0

-- the list with a run of entries put at a place, in the place of those that stood there
unfoldable pub put : List ℕ → ℕ → List ℕ → List ℕ
put s at new = take at s ++ new ++ drop (at + length new) s

-- each entry is a byte
abbrev pub Bytes : List ℕ → Type 0
Bytes xs = (i : ℕ) → get_or xs i 0 < 256

-- a number as n bytes, low byte first
unfoldable pub bytes : ℕ → ℕ → List ℕ
bytes zero v = []
bytes (suc n) v = (v % 256) ∷ bytes n (v / 256)

-- the number that bytes stand for, low byte first
unfoldable pub number : List ℕ → ℕ
number [] = 0
number (b ∷ bs) = b + 256 * number bs

-- the number in the n bytes from a place on
unfoldable pub field : ℕ → ℕ → List ℕ → ℕ
unfolding number
field at n xs = number (take n (drop at xs))
