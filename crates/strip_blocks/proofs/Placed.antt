-- What the loops that list the places of a set's strips keep; disk i's strip starts at place g i.
-- Assumes nothing.
use mathlib.Core.Path.{◌≡◌, refl, sym, ap, ap₂, ◌∙◌}
use mathlib.Core.Bool.{true, false}
use mathlib.Core.Logic.{◌⊎◌, inl, inr}
use mathlib.Core.List.{List}
use Prim.Native.Nat.{ℕ, ◌+◌, ◌*◌, ◌≤◌, ◌<◌}
use native.Mathlib.Numerals.{add-one}
use native.Mathlib.Omega.{arith}
use lib.Dec.{T}
use lib.ListN.{length, get_or, set, take, length-set}
use lib.Seq.{get_or-set_same, get_or-set_other, get_or-take, length-take-le}
use Rattle.gf2.specs.Sets.{has, ◌⊕◌, over}
use Rattle.gf2.proofs.Tests.{true-T, below_suc}
use Rattle.gf2.proofs.Xor.{⊕-zero}
use Rattle.flat.proofs.Positions.{strip-within}
use Rattle.strip_blocks.specs.Totals.{total}
use Rattle.strip_blocks.proofs.Totals.{total_cong}

-- ---- the places of the disks below i, in a list of so many

module _ (wanted n size : ℕ) (g : ℕ → ℕ) where
  pub record Placed (i : ℕ) (at : List ℕ) (count : ℕ) : Type 0 where
    pub few : count ≤ i
    pub places : length at ≡ size
    pub strips : (j : ℕ) → j < count → (i : ℕ) × (i < n) × T (has wanted i) × (get_or at j 0 ≡ g i)
    pub same : (f : ℕ → ℕ) → total count (λ j. f (get_or at j 0)) ≡ over i wanted (λ d. f (g d))

  pub placed-none : (at : List ℕ) → length at ≡ size → Placed 0 at 0
  unfolding total over
  placed-none at e = record { few = omega arith; places = e; strips = λ j h. absurd (omega arith); same = λ f. refl }

  -- what stands after them means nothing
  pub placed_other : (i : ℕ) (at : List ℕ) (count v : ℕ) → Placed i at count → Placed i (set at count v) count
  placed_other i at count v r =
      record {
        few = r.few;
        places = length-set at count v ∙ r.places;
        strips = λ j m. let p = r.strips j m in (p.0, p.1, p.2, other j m ∙ p.3);
        same = λ f. total_cong count (λ j. f (get_or (set at count v) j 0)) (λ j. f (get_or at j 0)) (λ j m. ap f (other j m)) ∙ r.same f;
      }
    where
      other : (j : ℕ) → j < count → get_or (set at count v) j 0 ≡ get_or at j 0
      other j m = get_or-set_other at count j v 0 (λ q. omega arith)

  pub placed_skip : (i : ℕ) (at : List ℕ) (count : ℕ) → Placed i at count → has wanted i ≡ false → Placed (i + 1) at count
  unfolding over
  placed_skip i at count r e =
      record {
        few = omega (arith, r.few);
        places = r.places;
        strips = r.strips;
        same = λ f. r.same f ∙ rw (add-one i, e) (sym (⊕-zero (over i wanted (λ d. f (g d)))));
      }

  pub placed-more : (i : ℕ) (at : List ℕ) (count : ℕ) → Placed i at count → i < n → n ≤ size → has wanted i ≡ true
      → Placed (i + 1) (set at count (g i)) (count + 1)
  unfolding over total
  placed-more i at count r h k e =
      record {
        few = omega (arith, r.few);
        places = s.places;
        strips = λ j m. strips j (below_suc j count (omega arith));
        same = λ f. rw (add-one i, add-one count, e) (ap₂ ◌⊕◌ (s.same f) (ap f new));
      }
    where
      s : Placed i (set at count (g i)) count
      s = placed_other i at count (g i) r

      new : get_or (set at count (g i)) count 0 ≡ g i
      new = get_or-set_same at count (g i) 0 (omega (arith, r.few, r.places))

      strips : (j : ℕ) → (j < count) ⊎ (j ≡ count) → (d : ℕ) × (d < n) × T (has wanted d) × (get_or (set at count (g i)) j 0 ≡ g d)
      strips j (inl m) = s.strips j m
      strips j (inr q) = (i, h, true-T e, ap (λ (x : ℕ). get_or (set at count (g i)) x 0) q ∙ new)

  -- the list of them by itself
  module _ (i : ℕ) (at : List ℕ) (count : ℕ) (r : Placed i at count) (few : i ≤ size) where
    pub placed-length : length (take count at) ≡ count
    placed-length = length-take-le count at (omega (arith, r.few, r.places))

    pub placed-strips : (j : ℕ) → j < length (take count at) → (d : ℕ) × (d < n) × T (has wanted d) × (get_or (take count at) j 0 ≡ g d)
    placed-strips j h =
        let m : j < count = omega (arith, placed-length) in
        let p = r.strips j m in
        (p.0, p.1, p.2, get_or-take count at j 0 m ∙ p.3)

    pub placed-sums : (f : ℕ → ℕ) → total (length (take count at)) (λ j. f (get_or (take count at) j 0)) ≡ over i wanted (λ d. f (g d))
    placed-sums f =
        ap (λ (m : ℕ). total m (λ j. f (get_or (take count at) j 0))) placed-length
        ∙ total_cong count (λ j. f (get_or (take count at) j 0)) (λ j. f (get_or at j 0)) (λ j m. ap f (get_or-take count at j 0 m)) ∙ r.same f

-- a strip of one of n disks is within the n strips
pub place_inside : (n l i p : ℕ) → i < n → p ≡ i * l → p + l ≤ n * l
place_inside n l i p h e = rw e (strip-within i n l h)
