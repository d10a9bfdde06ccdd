-- The list of parity sets: its members, each once and in order, and how many there are.
-- Assumes nothing.
use mathlib.Core.Path.{◌≡◌, sym, ap, ◌∙◌}
use mathlib.Core.Logic.{◌⊎◌, inl, inr, ◌≢◌}
use Prim.Native.Nat.{ℕ, suc, ◌+◌, ◌^◌, ◌≤◌, ◌<◌}
use native.Mathlib.Omega.{arith}
use lib.Arith.{lt_of_le-ne}
use lib.Dec.{T}
use lib.ListN.{length, get_or}
use Rattle.gf2.specs.Sets.{size}
use Rattle.gf2.proofs.Tests.{below_or}
use Rattle.gf2.proofs.Sizes.{size_lt}
use Rattle.flat.specs.Lists.{range}
use Rattle.flat.proofs.Members.{In, in_at, range_in, range_out, filter_in, filter_out, ordered_in, ordered_out}
use Rattle.flat.proofs.Order.{Lex, Sorted, sorted_at, sorted_filter, sorted_range, sorted_ordered}
use Rattle.flat.proofs.Totals.{ordered-whole}
use Rattle.stepped_codes.specs.Stepped.{size_ok, parity_sets, parity_set}
use Rattle.stepped_codes.specs.Theorems.{ParitySetsExact, ParitySetsOrdered, ParitySetCounts}
use Rattle.stepped_codes.proofs.Sizes.{from, sizes_three, sizes_four}
use Rattle.stepped_codes.proofs.Counting.{sets, many, many_cong, from_two, odd_three}

module _ (d m : ℕ) where
  set_in : (S : ℕ) → S < 2 ^ m → T (size_ok d (size S)) → In S (sets m (size_ok d))
  set_in S l t = filter_in (λ R. size_ok d (size R)) S (range 0 (2 ^ m)) t (range_in 0 (2 ^ m) S (omega arith) (omega arith))

  set_out : (S : ℕ) → In S (sets m (size_ok d)) → (S < 2 ^ m) × T (size_ok d (size S))
  set_out S t =
      let b = filter_out (λ R. size_ok d (size R)) S (range 0 (2 ^ m)) t in
      let c = range_out 0 (2 ^ m) S b.1 in
      (omega arith, b.0)

  size_below : (S : ℕ) → S < 2 ^ m → size S < suc m
  size_below S l = let h = size_lt m S l in omega arith

  pub listed_in : (S : ℕ) → S < 2 ^ m → T (size_ok d (size S)) → In S (parity_sets d m)
  unfolding parity_sets
  listed_in S l t = ordered_in size (suc m) S (sets m (size_ok d)) (size_below S l) (set_in S l t)

  pub listed_out : (S : ℕ) → In S (parity_sets d m) → (S < 2 ^ m) × T (size_ok d (size S))
  unfolding parity_sets
  listed_out S t = set_out S (ordered_out size (suc m) S (sets m (size_ok d)) t).1

  listed_sorted : Sorted (Lex size (λ x y. x < y)) (parity_sets d m)
  unfolding parity_sets
  listed_sorted =
      sorted_ordered (λ x y. x < y) size (sets m (size_ok d))
      (sorted_filter (λ x y. x < y) (λ R. size_ok d (size R)) (range 0 (2 ^ m)) (sorted_range 0 (2 ^ m))) (suc m)

  pub listed-length : length (parity_sets d m) ≡ many m (size_ok d)
  unfolding parity_sets many
  listed-length = ordered-whole size (suc m) (sets m (size_ok d)) (λ S t. size_below S (set_out S t).0)

  -- data disk i's
  module _ (i : ℕ) (l : i < length (parity_sets d m)) where
    pub set-low : parity_set d m i < 2 ^ m
    unfolding parity_set
    set-low = (listed_out (get_or (parity_sets d m) i 0) (in_at (parity_sets d m) i l)).0

    pub set-sized : T (size_ok d (size (parity_set d m i)))
    unfolding parity_set
    set-sized = (listed_out (get_or (parity_sets d m) i 0) (in_at (parity_sets d m) i l)).1

  pub sets-ordered : (i j : ℕ) → i < j → j < length (parity_sets d m) → Lex size (λ x y. x < y) (parity_set d m i) (parity_set d m j)
  unfolding parity_set
  sets-ordered i j h l = sorted_at (Lex size (λ x y. x < y)) (parity_sets d m) listed_sorted i j h l

  -- no two data disks take the same
  pub sets-apart : (i j : ℕ) → i < length (parity_sets d m) → j < length (parity_sets d m) → i ≢ j → parity_set d m i ≢ parity_set d m j
  sets-apart i j li lj f e = go (below_or i j)
    where
      self : (R S : ℕ) → R ≡ S → Lex size (λ x y. x < y) R S → ⊥
      self R S q (inl r) = omega (arith, ap size q)
      self R S q (inr r) = let u = r.1 in omega arith

      go : (i < j) ⊎ (j ≤ i) → ⊥
      go (inl h) = self (parity_set d m i) (parity_set d m j) e (sets-ordered i j h lj)
      go (inr h) = self (parity_set d m j) (parity_set d m i) (sym e) (sets-ordered j i (lt_of_le-ne h (λ q. f (sym q))) li)

pub parity-sets-exact : ParitySetsExact
parity-sets-exact d m S = (listed_out d m S, λ p. listed_in d m S p.0 p.1)

pub parity-sets-ordered : ParitySetsOrdered
parity-sets-ordered = sets-ordered

pub parity-set-counts : ParitySetCounts
parity-set-counts m = (
  ap (λ (n : ℕ). n + m + 1) (listed-length 3 m ∙ many_cong m (size_ok 3) (from 2 0) sizes_three) ∙ from_two m,
  ap (λ (n : ℕ). n + suc m) (listed-length 4 (suc m) ∙ many_cong (suc m) (size_ok 4) (from 3 1) sizes_four) ∙ odd_three m,
)
