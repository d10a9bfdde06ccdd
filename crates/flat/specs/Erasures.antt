-- Document 01, "Fatal sets and their list".
-- A fatal set is an erasure pattern of document 000: its loss loses data. Its list is the minimal erasures list, its vector the
-- minimal erasures vector with one number more.
-- Assumes nothing.
use Rattle.std.specs.Prelude.{Bool, not, ◌&&◌, ◌||◌, List, map, ℕ, suc, ◌+◌, ◌^◌, eqb, length}
use Rattle.gf2.specs.Sets.{bit, has, size, ◌∖◌, ◌⊂◌}
use Rattle.flat.specs.Lists.{some, every, set_of, range, filter, ordered_by}
use Rattle.flat.specs.Cards.{Code, disks, data_part}
use Rattle.flat.specs.Strips.{holds}

-- what disk i holds for the data word x, which has one bit for each data disk
unfoldable pub holds_bit : Code → ℕ → ℕ → ℕ
unfolding holds bit
holds_bit C x i = holds C (bit x) i

-- do the data words x and y agree on every disk outside S?
unfoldable pub agree_outside : Code → ℕ → ℕ → ℕ → Bool
unfolding every disks has holds_bit
agree_outside C S x y = every (disks C) (λ i. has S i || eqb (holds_bit C x i) (holds_bit C y i))

-- the survivors when S is lost: the code's disks outside it
unfoldable pub survivors : Code → ℕ → ℕ
unfolding set_of disks has
survivors C S = set_of (disks C) (λ i. not (has S i))

-- is S fatal: are there two different data words that agree outside S?
unfoldable pub fatal : Code → ℕ → Bool
unfolding some agree_outside
fatal C S = some (2 ^ C.k) (λ x. some (2 ^ C.k) (λ y. not (eqb x y) && agree_outside C S x y))

-- does the loss of S leave disk d undetermined (document 02, request [5]): do two data words that agree outside S differ on it?
unfoldable pub undetermined : Code → ℕ → ℕ → Bool
unfolding some agree_outside holds_bit
undetermined C S d =
    some (2 ^ C.k) (λ x. some (2 ^ C.k) (λ y. agree_outside C S x y && not (eqb (holds_bit C x d) (holds_bit C y d))))

-- the undetermined disks of S, which are the verdict call's answer, and its other disks, which the survivors determine
unfoldable pub undetermined_set : Code → ℕ → ℕ
unfolding set_of disks undetermined
undetermined_set C S = set_of (disks C) (undetermined C S)

unfoldable pub determined_set : Code → ℕ → ℕ
unfolding ◌∖◌ undetermined_set
determined_set C S = S ∖ undetermined_set C S

-- is S a minimal erasure: fatal, with no fatal proper subset?
unfoldable pub minimal_erasure : Code → ℕ → Bool
unfolding some disks fatal ◌⊂◌
minimal_erasure C S = fatal C S && not (some (2 ^ disks C) (λ R. (R ⊂ S) && fatal C R))

-- all minimal erasures, smaller size first, then smaller data part
unfoldable pub erasures : Code → List ℕ
unfolding ordered_by size data_part filter range disks minimal_erasure
erasures C =
    ordered_by size (suc (disks C)) (ordered_by (data_part C) (2 ^ C.k) (filter (minimal_erasure C) (range 0 (2 ^ disks C))))

-- how many places the vector has: m + 1 (document 02, request [2])
unfoldable pub places : Code → ℕ
places C = C.m + 1

-- the vector: for each i from 1 on, how many entries have size i
unfoldable pub vector : Code → List ℕ
unfolding range filter size places erasures
vector C = map (λ i. length (filter (λ S. eqb (size S) i) (erasures C))) (range 1 (places C))
