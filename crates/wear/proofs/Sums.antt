-- Sums over the disks of a set: they grow with the set, each disk adds its own, and they are made of parts.
-- Assumes nothing.
use mathlib.Core.Path.{◌≡◌, refl, sym, ap, ap₂, ◌∙◌, subst}
use mathlib.Core.Bool.{Bool, true, false}
use mathlib.Core.Logic.{◌⊎◌, inl, inr, ⊎_elim, ◌≢◌}
use Prim.Native.Nat.{ℕ, zero, suc, ◌+◌, ◌*◌, ◌/◌, ◌%◌, ◌^◌, ◌≤◌, ◌<◌}
use native.Mathlib.Nat.{add-mul, div-eq_of_lt, mod-eq_of_lt, mul-le-mul_right}
use native.Mathlib.Omega.{arith}
use lib.Dec.{T, eqb}
use Rattle.std.specs.Prelude.{if◌then◌else◌}
use Rattle.gf2.specs.Sets.{has, ◌⊕◌, ◌⊆◌, ◌∖◌}
use Rattle.gf2.specs.Within.{lowest}
use Rattle.gf2.proofs.Tests.{dec, T-ext, if_true, if_false}
use Rattle.gf2.proofs.Bits.{bit-mod, bit_shift, no_disk}
use Rattle.gf2.proofs.Xor.{⊕_comm}
use Rattle.gf2.proofs.Subsets.{⊆_out, ⊆_antisym, none-⊆, ∖_out, ∖_le, lowest-has, lowest_lt, ⊕_out, ⊕-left, power_in, power_out}
use Rattle.flat.specs.Lists.{tabulate, sum, count}
use Rattle.flat.proofs.Lists.{tabulate_cong}
use Rattle.flat.proofs.Counts.{count_le, count-append, count_cong}
use Rattle.flat.proofs.Totals.{sum_zeros}
use Rattle.wear.specs.Wear.{sum_over}

-- ---- tables

pub sum_mono : (n : ℕ) (f g : ℕ → ℕ) → ((i : ℕ) → i < n → f i ≤ g i) → sum (tabulate n f) ≤ sum (tabulate n g)
unfolding sum tabulate
sum_mono zero f g h = omega arith
sum_mono (suc n) f g h = omega (arith, h 0 (omega arith), sum_mono n (λ i. f (suc i)) (λ i. g (suc i)) (λ i l. h (suc i) (omega arith)))

sum_less : (n k : ℕ) (f g : ℕ → ℕ) → ((i : ℕ) → i < n → f i ≤ g i) → k < n → f k < g k → sum (tabulate n f) < sum (tabulate n g)
unfolding sum tabulate
sum_less zero k f g h l m = absurd (omega arith)
sum_less (suc n) zero f g h l m = omega (arith, m, sum_mono n (λ i. f (suc i)) (λ i. g (suc i)) (λ i q. h (suc i) (omega arith)))
sum_less (suc n) (suc k) f g h l m =
    omega (arith, h 0 (omega arith), sum_less n k (λ i. f (suc i)) (λ i. g (suc i)) (λ i q. h (suc i) (omega arith)) (omega arith) m)

pub sum-add : (n : ℕ) (f g : ℕ → ℕ) → sum (tabulate n (λ i. f i + g i)) ≡ sum (tabulate n f) + sum (tabulate n g)
unfolding sum tabulate
sum-add zero f g = omega arith
sum-add (suc n) f g = omega (arith, sum-add n (λ i. f (suc i)) (λ i. g (suc i)))

pub sum_scaled : (n w : ℕ) (f : ℕ → ℕ) → sum (tabulate n (λ i. f i * w)) ≡ sum (tabulate n f) * w
unfolding sum tabulate
sum_scaled zero w f = let z : 0 ≡ 0 * w = omega arith in z
sum_scaled (suc n) w f = ap (λ (x : ℕ). f 0 * w + x) (sum_scaled n w (λ i. f (suc i))) ∙ sym (add-mul (f 0) (sum (tabulate n (λ i. f (suc i)))) w)

-- one entry, where the others are 0
sum-only : (n k : ℕ) (g : ℕ → ℕ) → k < n → ((i : ℕ) → i ≢ k → g i ≡ 0) → sum (tabulate n g) ≡ g k
unfolding sum tabulate
sum-only zero k g l h = absurd (omega arith)
sum-only (suc n) zero g l h = omega (arith, sum_zeros n (λ i. g (suc i)) (λ i. h (suc i) (λ e. omega arith)))
sum-only (suc n) (suc k) g l h =
    omega (arith, h 0 (λ e. omega arith), sum-only n k (λ i. g (suc i)) (omega arith) (λ i q. h (suc i) (λ e. q (omega arith))))

pub sum_parts : (a b : ℕ) (f : ℕ → ℕ) → sum (tabulate (a + b) f) ≡ sum (tabulate a f) + sum (tabulate b (λ i. f (a + i)))
unfolding sum tabulate
sum_parts zero b f =
    let e : 0 + b ≡ b = omega arith in
    let c : sum (tabulate b (λ i. f (0 + i))) ≡ sum (tabulate b f) =
    ap sum (tabulate_cong b (λ i. f (0 + i)) f (λ i l. let q : 0 + i ≡ i = omega arith in ap f q)) in
    rw e (omega arith)
sum_parts (suc a) b f =
    let e : suc a + b ≡ suc (a + b) = omega arith in
    let c : sum (tabulate b (λ i. f (suc a + i))) ≡ sum (tabulate b (λ i. f (suc (a + i)))) =
    ap sum (tabulate_cong b (λ i. f (suc a + i)) (λ i. f (suc (a + i))) (λ i l. let q : suc a + i ≡ suc (a + i) = omega arith in ap f q)) in
    rw e (omega (arith, sum_parts a b (λ i. f (suc i))))

pub count-sum : (n : ℕ) (p : ℕ → Bool) → count n p ≡ sum (tabulate n (λ i. if p i then 1 else 0))
unfolding sum tabulate count
count-sum zero p = refl
count-sum (suc n) p =
    let e : suc n ≡ 1 + n = omega arith in
    let same = count_cong n (λ j. p (1 + j)) (λ j. p (suc j)) (λ j l. let q : 1 + j ≡ suc j = omega arith in ap p q) in
    omega (arith, ap (λ (x : ℕ). count x p) e, count-append 1 n p, same, count-sum n (λ j. p (suc j)))

-- ---- sets

-- what a disk adds to two sets
part_mono : (a b : Bool) (v : ℕ) → (T a → T b) → ◌≤◌ (if a then v else 0) (if b then v else 0)
part_mono true true v h = omega arith
part_mono true false v h = absurd (h tt)
part_mono false b v h = omega arith

module _ (n : ℕ) (f : ℕ → ℕ) where
  parts_mono : (E F : ℕ) → T (E ⊆ F) → (i : ℕ) → ◌≤◌ (if has E i then f i else 0) (if has F i then f i else 0)
  parts_mono E F t i = part_mono (has E i) (has F i) (f i) (⊆_out E F t i)

  -- a larger set has no smaller sum
  pub over_mono : (E F : ℕ) → T (E ⊆ F) → sum_over n E f ≤ sum_over n F f
  unfolding sum_over
  over_mono E F t = sum_mono n (λ i. if has E i then f i else 0) (λ i. if has F i then f i else 0) (λ i l. parts_mono E F t i)

  -- and a larger one where each disk counts
  pub over-less : (E F : ℕ) → T (E ⊆ F) → E ≢ F → F < 2 ^ n → ((i : ℕ) → i < n → 1 ≤ f i) → sum_over n E f < sum_over n F f
  unfolding sum_over
  over-less E F t d l p =
      let z : F ∖ E ≢ 0 = λ e. d (⊆_antisym E F t (none-⊆ F E e)) in
      let i = lowest (F ∖ E) in
      let m = ∖_out F E i (lowest-has (F ∖ E) z) in
      let b : i < n = lowest_lt n (F ∖ E) z (omega (arith, ∖_le F E)) in
      let e : (if has E i then f i else 0) ≡ 0 = if_false (has E i) (f i) 0 m.1 in
      let g : (if has F i then f i else 0) ≡ f i = if_true (has F i) (f i) 0 m.0 in
      sum_less n i (λ j. if has E j then f j else 0) (λ j. if has F j then f j else 0) (λ j q. parts_mono E F t j) b (omega (arith, e, g, p i b))

  pub over_empty : sum_over n 0 f ≡ 0
  unfolding sum_over
  over_empty = sum_zeros n (λ i. if has 0 i then f i else 0) (λ i. if_false (has 0 i) (f i) 0 (no_disk i))

  -- a disk that is not in the set adds its own
  pub over-plus : (E i : ℕ) → i < n → (T (has E i) → ⊥) → sum_over n (E ⊕ 2 ^ i) f ≡ sum_over n E f + f i
  unfolding sum_over
  over-plus E i l q =
      ap sum (tabulate_cong n (λ j. if has (E ⊕ 2 ^ i) j then f j else 0) (λ j. old j + own j) (λ j m. at j (dec (has (2 ^ i) j))))
      ∙ sum-add n old own
      ∙ ap (λ (x : ℕ). sum (tabulate n old) + x)
      (sum-only n i own l (λ j e. if_false (has (2 ^ i) j) (f j) 0 (λ t. e (power_out i j t))) ∙ if_true (has (2 ^ i) i) (f i) 0 (power_in i))
    where
      old : ℕ → ℕ
      old j = if has E j then f j else 0

      own : ℕ → ℕ
      own j = if has (2 ^ i) j then f j else 0

      at : (j : ℕ) → T (has (2 ^ i) j) ⊎ (T (has (2 ^ i) j) → ⊥) → (if has (E ⊕ 2 ^ i) j then f j else 0) ≡ old j + own j
      at j (inl t) =
          let e = power_out i j t in
          let lacks : T (has E j) → ⊥ = λ u. q (subst (λ (x : ℕ). T (has E x)) e u) in
          let a = if_false (has E j) (f j) 0 lacks in
          let b = if_true (has (2 ^ i) j) (f j) 0 t in
          let c = if_true (has (E ⊕ 2 ^ i) j) (f j) 0 (subst (λ (x : ℕ). T (has x j)) (⊕_comm (2 ^ i) E) (⊕-left (2 ^ i) E j t lacks)) in
          omega (arith, a, b, c)
      at j (inr g) =
          let same : has (E ⊕ 2 ^ i) j ≡ has E j = T-ext (λ t. ⊎_elim (λ u. u) (λ u. absurd (g u)) (⊕_out E (2 ^ i) j t)) (λ t. ⊕-left E (2 ^ i) j t g) in
          let b = if_false (has (2 ^ i) j) (f j) 0 g in
          rw same (omega (arith, b))

  -- where all count alike, the sum is the count of disks as many times
  pub over-alike : (w E : ℕ) → ((i : ℕ) → i < n → f i ≡ w) → sum_over n E f ≡ count n (has E) * w
  unfolding sum_over
  over-alike w E h =
      ap sum (tabulate_cong n (λ i. if has E i then f i else 0) (λ i. (if has E i then 1 else 0) * w) (λ i l. at (has E i) (f i) (h i l)))
      ∙ sum_scaled n w (λ i. if has E i then 1 else 0) ∙ ap (λ (x : ℕ). x * w) (sym (count-sum n (has E)))
    where
      at : (b : Bool) (v : ℕ) → v ≡ w → (if b then v else 0) ≡ (if b then 1 else 0) * w
      at true v e = let z : w ≡ 1 * w = omega arith in e ∙ z
      at false v e = let z : 0 ≡ 0 * w = omega arith in z

-- ---- parts of what is added up, and parts of the set

pub over_fun : (n E : ℕ) (f g : ℕ → ℕ) → ((i : ℕ) → i < n → f i ≡ g i) → sum_over n E f ≡ sum_over n E g
unfolding sum_over
over_fun n E f g h =
    ap sum (tabulate_cong n (λ i. if has E i then f i else 0) (λ i. if has E i then g i else 0) (λ i l. ap (λ (x : ℕ). if has E i then x else 0) (h i l)))

pub over_add : (n E : ℕ) (f g : ℕ → ℕ) → sum_over n E (λ i. f i + g i) ≡ sum_over n E f + sum_over n E g
unfolding sum_over
over_add n E f g =
    ap sum (tabulate_cong n (λ i. if has E i then f i + g i else 0) (λ i. (if has E i then f i else 0) + (if has E i then g i else 0))
    (λ i l. at (has E i) (f i) (g i)))
    ∙ sum-add n (λ i. if has E i then f i else 0) (λ i. if has E i then g i else 0)
  where
    at : (b : Bool) (x y : ℕ) → (if b then x + y else 0) ≡ (if b then x else 0) + (if b then y else 0)
    at true x y = refl
    at false x y = refl

pub over_scaled : (n E w : ℕ) (f : ℕ → ℕ) → sum_over n E (λ i. f i * w) ≡ sum_over n E f * w
unfolding sum_over
over_scaled n E w f =
    ap sum (tabulate_cong n (λ i. if has E i then f i * w else 0) (λ i. (if has E i then f i else 0) * w) (λ i l. at (has E i) (f i)))
    ∙ sum_scaled n w (λ i. if has E i then f i else 0)
  where
    at : (b : Bool) (x : ℕ) → (if b then x * w else 0) ≡ (if b then x else 0) * w
    at true x = refl
    at false x = let z : 0 ≡ 0 * w = omega arith in z

-- the disks below a, and those from a on
pub over_parts : (a b E : ℕ) (f : ℕ → ℕ) → sum_over (a + b) E f ≡ sum_over a (E % 2 ^ a) f + sum_over b (E / 2 ^ a) (λ i. f (a + i))
unfolding sum_over
over_parts a b E f =
    sum_parts a b (λ i. if has E i then f i else 0)
    ∙ ap₂ ◌+◌
    (ap sum (tabulate_cong a (λ i. if has E i then f i else 0) (λ i. if has (E % 2 ^ a) i then f i else 0)
    (λ i l. ap (λ (c : ℕ). if eqb c 1 then f i else 0) (sym (bit-mod a E i l)))))
    (ap sum (tabulate_cong b (λ i. if has E (a + i) then f (a + i) else 0) (λ i. if has (E / 2 ^ a) i then f (a + i) else 0)
    (λ i l. ap (λ (c : ℕ). if eqb c 1 then f (a + i) else 0) (sym (bit_shift a E i)))))

-- a set of disks below a has none from a on
pub over_beyond : (a b E : ℕ) (f : ℕ → ℕ) → E < 2 ^ a → sum_over (a + b) E f ≡ sum_over a E f
over_beyond a b E f l =
    omega (
      arith,
      over_parts a b E f,
      ap (λ (x : ℕ). sum_over a x f) (mod-eq_of_lt l),
      ap (λ (x : ℕ). sum_over b x (λ i. f (a + i))) (div-eq_of_lt l),
      over_empty b (λ i. f (a + i)),
    )

-- where each disk adds at most w, the sum is at most so many times w
pub over-most : (n w E : ℕ) (f : ℕ → ℕ) → ((i : ℕ) → i < n → f i ≤ w) → sum_over n E f ≤ n * w
unfolding sum_over
over-most n w E f h =
    let a : sum_over n E f ≤ sum_over n E (λ i. w) =
    sum_mono n (λ i. if has E i then f i else 0) (λ i. if has E i then w else 0) (λ i l. at (has E i) (f i) (h i l)) in
    omega (arith, a, over-alike n (λ i. w) w E (λ i l. refl), mul-le-mul_right w (count_le n (has E)))
  where
    at : (b : Bool) (x : ℕ) → x ≤ w → ◌≤◌ (if b then x else 0) (if b then w else 0)
    at true x l = l
    at false x l = omega arith
