-- How many numbers below a bound have a property, and how many disks a set holds: one made by a test, and an XOR of sets of odd size.
-- Assumes nothing.
use mathlib.Core.Path.{◌≡◌, refl, sym, ap, ap₂, ◌∙◌}
use mathlib.Core.Bool.{Bool, true, false, ◌&&◌}
use mathlib.Core.Logic.{◌⊎◌, inl, inr, ⊎_elim}
use Prim.Native.Nat.{ℕ, zero, suc, ◌+◌, ◌*◌, ◌%◌, ◌^◌, ◌≤◌, ◌<◌}
use native.Mathlib.Nat.{le_refl, add-zero}
use native.Mathlib.Omega.{arith}
use lib.Count.{ones, ones_cat}
use lib.Dec.{T, eqb}
use Rattle.std.specs.Prelude.{if◌then◌else◌}
use Rattle.gf2.specs.Sets.{has, size, ◌∩◌, ◌⊕◌, over}
use Rattle.gf2.proofs.Tests.{T-ext, and_in, and_out, eqb_in, eqb_out, below_suc, if_true, if_false}
use Rattle.gf2.proofs.Xor.{⊕-zero}
use Rattle.gf2.proofs.Subsets.{∩_in, ∩_out, same-disks}
use Rattle.gf2.proofs.Sizes.{size-zero, size-⊕}
use Rattle.gf2.proofs.Made.{set_is}
use Rattle.flat.specs.Lists.{count, set_of}
use Rattle.flat.proofs.Quantifiers.{set_lt, set_in, set_out}

pub count_le : (n : ℕ) (p : ℕ → Bool) → count n p ≤ n
unfolding count
count_le zero p = omega arith
count_le (suc n) p = go (p n) (count_le n p)
  where
    go : (b : Bool) → count n p ≤ n → count n p + (if b then 1 else 0) ≤ suc n
    go true h = omega arith
    go false h = omega arith

-- the next number is one more where it has the property
pub count-more : (i : ℕ) (p : ℕ → Bool) → T (p i) → count (suc i) p ≡ suc (count i p)
unfolding count
count-more i p t =
    let w : ◌≡◌ {A = ℕ} (if p i then 1 else 0) 1 = if_true (p i) 1 0 t in omega arith

-- a larger bound has as many at least
pub count_grows : (p : ℕ → Bool) (i n : ℕ) → i ≤ n → count i p ≤ count n p
unfolding count
count_grows p i zero h = let e : i ≡ 0 = omega arith in rw e (le_refl 0)
count_grows p i (suc n) h =
    ⊎_elim (λ l. let q = count_grows p i n (omega arith) in omega arith) (λ e. rw e (le_refl (count (suc n) p))) (below_suc i (suc n) (omega arith))

-- one below the bound that has the property is one more
pub count-below : (n d : ℕ) (p : ℕ → Bool) → d < n → T (p d) → suc (count d p) ≤ count n p
count-below n d p l t = omega (arith, count-more d p t, count_grows p (suc d) n l)

-- the same property, in other words
pub count_cong : (n : ℕ) (p q : ℕ → Bool) → ((i : ℕ) → i < n → p i ≡ q i) → count n p ≡ count n q
unfolding count
count_cong zero p q h = refl
count_cong (suc n) p q h =
    ap₂ (λ (x : ℕ) (b : Bool). x + (if b then 1 else 0)) (count_cong n p q (λ i l. h i (omega arith))) (h n (omega arith))

-- the first k, and the others
pub count-append : (k m : ℕ) (p : ℕ → Bool) → count (k + m) p ≡ count k p + count m (λ j. p (k + j))
unfolding count
count-append k zero p = ap (λ (x : ℕ). count x p) (add-zero k) ∙ sym (add-zero (count k p))
count-append k (suc m) p =
    let e : k + suc m ≡ suc (k + m) = omega arith in ap (λ (x : ℕ). count x p) e ∙ omega (arith, count-append k m p)

-- no number has the property
pub count_none : (n : ℕ) (p : ℕ → Bool) → ((i : ℕ) → i < n → T (p i) → ⊥) → count n p ≡ 0
unfolding count
count_none zero p h = refl
count_none (suc n) p h = ap₂ (λ (x y : ℕ). x + y) (count_none n p (λ i l. h i (omega arith))) (if_false (p n) 1 0 (h n (omega arith)))

-- one number alone is d
pub count-one : (n d : ℕ) → d < n → count n (λ i. eqb i d) ≡ 1
unfolding count
count-one zero d l = absurd (omega arith)
count-one (suc n) d l = go (below_suc d n l) (count-one n d)
  where
    go : (d < n) ⊎ (d ≡ n) → (d < n → count n (λ i. eqb i d) ≡ 1) → count n (λ i. eqb i d) + (if eqb n d then 1 else 0) ≡ 1
    go (inl m) rest = ap₂ (λ (x y : ℕ). x + y) (rest m) (if_false (eqb n d) 1 0 (λ t. let e = eqb_out n d t in omega arith))
    go (inr e) rest =
        ap₂ (λ (x y : ℕ). x + y) (count_none n (λ i. eqb i d) (λ i h t. let f = eqb_out i d t in omega arith)) (if_true (eqb n d) 1 0 (eqb_in (sym e)))

-- ---- how many disks a set holds

-- one more disk above a set
pub size_above : (n S : ℕ) (b : Bool) → S < 2 ^ n → size (S + (if b then 2 ^ n else 0)) ≡ size S + (if b then 1 else 0)
unfolding size
size_above n S true l =
    let e : S + 2 ^ n ≡ 1 * 2 ^ n + S = omega arith in
    let f : ones 1 + ones S ≡ ones S + 1 = omega arith in
    ap ones e ∙ ones_cat n 1 S l ∙ f
size_above n S false l =
    let e : S + 0 ≡ S = omega arith in
    let f : ones S ≡ ones S + 0 = omega arith in
    ap ones e ∙ f

pub size-set : (n : ℕ) (p : ℕ → Bool) → size (set_of n p) ≡ count n p
unfolding size set_of count
size-set zero p = refl
size-set (suc n) p = size_above n (set_of n p) (p n) (set_lt n p) ∙ ap (λ (x : ℕ). x + (if p n then 1 else 0)) (size-set n p)

-- and how many of them have a property
pub size-those : (n S : ℕ) (p : ℕ → Bool) → size (S ∩ set_of n p) ≡ count n (λ i. has S i && p i)
size-those n S p =
    ap size
    (same-disks (S ∩ set_of n p) (set_of n (λ i. has S i && p i))
    (λ i. T-ext
    (λ t. let r = ∩_out S (set_of n p) i t in
    let q = set_out n p i r.1 in
    set_in n (λ j. has S j && p j) i q.0 (and_in (has S i) (p i) r.0 q.1))
    (λ t. let q = set_out n (λ j. has S j && p j) i t in
    let r = and_out (has S i) (p i) q.1 in
    ∩_in S (set_of n p) i r.0 (set_in n p i q.0 r.1))))
    ∙ size-set n (λ i. has S i && p i)

-- a set below 2 ^ n, counted disk by disk
pub size-count : (n S : ℕ) → S < 2 ^ n → size S ≡ count n (has S)
size-count n S l = ap size (sym (set_is n S (has S) l (λ i h. refl))) ∙ size-set n (has S)

-- an XOR of sets of odd size has an odd size where an odd number of sets is XORed
pub over_odd : (n S : ℕ) (f : ℕ → ℕ) → ((i : ℕ) → i < n → size (f i) % 2 ≡ 1) → size (over n S f) % 2 ≡ count n (has S) % 2
unfolding over count
over_odd zero S f h = ap (λ (x : ℕ). x % 2) size-zero
over_odd (suc n) S f h = go (has S n) (over_odd n S f (λ i l. h i (omega arith))) (h n (omega arith))
  where
    go : (b : Bool) → size (over n S f) % 2 ≡ count n (has S) % 2 → size (f n) % 2 ≡ 1
        → size (over n S f ⊕ (if b then f n else 0)) % 2 ≡ (count n (has S) + (if b then 1 else 0)) % 2
    go true e o = omega (arith, size-⊕ (over n S f) (f n))
    go false e o = omega (arith, ap size (⊕-zero (over n S f)))
