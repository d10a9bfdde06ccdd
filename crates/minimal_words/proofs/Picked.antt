-- The rows that a number selects, as a list: their XOR, their span, and the first of them.
-- Assumes nothing.
use mathlib.Core.Path.{◌≡◌, refl, sym, ap, ◌∙◌}
use mathlib.Core.Bool.{Bool, true, false}
use mathlib.Core.Logic.{◌⊎◌, inl, inr, ◌≢◌}
use mathlib.Core.List.{List, [], ◌∷◌, map}
use Prim.Native.Nat.{ℕ, zero, suc, ◌/◌, ◌%◌, ◌^◌, ◌<◌}
use native.Mathlib.Nat.{pow-suc}
use native.Mathlib.Omega.{arith}
use lib.Arith.{lt-one}
use lib.Bits.{xor_shr}
use lib.Count.{count_trailing_zeros}
use lib.Dec.{T, eqb}
use lib.ListN.{length, get_or, take}
use Rattle.std.specs.Prelude.{if◌then◌else◌}
use Rattle.gf2.specs.Sets.{bit, has, ◌⊕◌}
use Rattle.gf2.specs.Span.{InSpan, Independent, select}
use Rattle.gf2.specs.Within.{lowest}
use Rattle.gf2.proofs.Bits.{bit_cases, bit-low, bit-suc, bit-of-zero, bit-pow-same, bit-pow_other, bit-⊕, half_lt, has_one, has-zero}
use Rattle.gf2.proofs.Xor.{zero-⊕, ⊕-zero, ⊕-back}
use Rattle.gf2.proofs.Subsets.{lowest_trailing}
use Rattle.gf2.proofs.Spans.{at}
use Rattle.gf2.proofs.Sums.{select-cons}

-- row i, where bit i of x is 1
unfoldable pub picked : List ℕ → ℕ → List ℕ
picked [] x = []
picked (b ∷ bs) x = if has x 0 then b ∷ picked bs (x / 2) else picked bs (x / 2)

-- the XOR of all rows of a list
abbrev pub sum : List ℕ → ℕ
sum [] = 0
sum (b ∷ bs) = b ⊕ sum bs

-- ---- their XOR and their span

pub sum-picked : (bs : List ℕ) (x : ℕ) → sum (picked bs x) ≡ select bs x
unfolding picked select
sum-picked [] x = refl
sum-picked (b ∷ bs) x = go (has x 0) (sum-picked bs (x / 2)) ∙ sym (select-cons b bs x)
  where
    go : (t : Bool) → sum (picked bs (x / 2)) ≡ select bs (x / 2)
        → sum (if t then b ∷ picked bs (x / 2) else picked bs (x / 2)) ≡ (if t then b else 0) ⊕ select bs (x / 2)
    go true e = ap (λ (y : ℕ). b ⊕ y) e
    go false e = e ∙ sym (zero-⊕ (select bs (x / 2)))

-- the XOR of all rows is in their span
pub sum_in_span : (bs : List ℕ) → InSpan bs (sum bs)
sum_in_span [] = refl
sum_in_span (b ∷ bs) = inr (at bs (sym (⊕-back b (sum bs))) (sum_in_span bs))

-- the rows picked span words of all rows
pub picked_in : (bs : List ℕ) (x v : ℕ) → InSpan (picked bs x) v → InSpan bs v
unfolding picked
picked_in [] x v h = h
picked_in (b ∷ bs) x v h = go (has x 0) (picked_in bs (x / 2)) h
  where
    go : (t : Bool) → ((u : ℕ) → InSpan (picked bs (x / 2)) u → InSpan bs u)
        → InSpan (if t then b ∷ picked bs (x / 2) else picked bs (x / 2)) v → InSpan (b ∷ bs) v
    go true f (inl s) = inl (f v s)
    go true f (inr s) = inr (f (b ⊕ v) s)
    go false f s = inl (f v s)

pub picked-indep : (bs : List ℕ) (x : ℕ) → Independent bs → Independent (picked bs x)
unfolding picked
picked-indep [] x i = tt
picked-indep (b ∷ bs) x (i, n) = go (has x 0) (picked-indep bs (x / 2) i)
  where
    go : (t : Bool) → Independent (picked bs (x / 2)) → Independent (if t then b ∷ picked bs (x / 2) else picked bs (x / 2))
    go true j = (j, λ s. n (picked_in bs (x / 2) b s))
    go false j = j

has-suc : (S i : ℕ) → has S (suc i) ≡ has (S / 2) i
unfolding has
has-suc S i = ap (λ (b : ℕ). eqb b 1) (bit-suc S i)

-- a number whose bits are all in x selects a word of the rows that x picks
pub fewer_in : (bs : List ℕ) (x y : ℕ) → ((i : ℕ) → i < length bs → T (has y i) → T (has x i)) → InSpan (picked bs x) (select bs y)
unfolding picked select
fewer_in [] x y h = refl
fewer_in (b ∷ bs) x y h =
    at (picked (b ∷ bs) x) (sym (select-cons b bs y))
    (go (has y 0) (has x 0) (h 0 (omega arith))
    (fewer_in bs (x / 2) (y / 2) (λ i l t. rw has-suc at (h (suc i) (omega arith) (rw has-suc t)))))
  where
    go : (t u : Bool) → (T t → T u) → InSpan (picked bs (x / 2)) (select bs (y / 2))
        → InSpan (if u then b ∷ picked bs (x / 2) else picked bs (x / 2)) ((if t then b else 0) ⊕ select bs (y / 2))
    go true true f s = inr (at (picked bs (x / 2)) (sym (⊕-back b (select bs (y / 2)))) s)
    go true false f s = absurd (f tt)
    go false true f s = inl (at (picked bs (x / 2)) (sym (zero-⊕ (select bs (y / 2)))) s)
    go false false f s = at (picked bs (x / 2)) (sym (zero-⊕ (select bs (y / 2)))) s

-- so does x itself
pub select-picked : (bs : List ℕ) (x : ℕ) → InSpan (picked bs x) (select bs x)
select-picked bs x = fewer_in bs x x (λ i l t. t)

-- ---- of other lists

pub picked-map : (f : ℕ → ℕ) (bs : List ℕ) (x : ℕ) → picked (map f bs) x ≡ map f (picked bs x)
unfolding picked
picked-map f [] x = refl
picked-map f (b ∷ bs) x = go (has x 0) (picked-map f bs (x / 2))
  where
    go : (t : Bool) → picked (map f bs) (x / 2) ≡ map f (picked bs (x / 2))
        → (if t then f b ∷ picked (map f bs) (x / 2) else picked (map f bs) (x / 2)) ≡ map f (if t then b ∷ picked bs (x / 2) else picked bs (x / 2))
    go true e = ap (λ (l : List ℕ). f b ∷ l) e
    go false e = e

pub picked_none : (bs : List ℕ) → picked bs 0 ≡ []
unfolding picked
picked_none [] = refl
picked_none (b ∷ bs) = rw (has-zero 0 0 (bit-of-zero 0)) (picked_none bs)

-- rows past the bits of x do not matter
pub picked-take : (n : ℕ) (bs : List ℕ) (x : ℕ) → x < 2 ^ n → picked (take n bs) x ≡ picked bs x
unfolding picked
picked-take zero bs x h = sym (ap (picked bs) (lt-one h) ∙ picked_none bs)
picked-take (suc n) [] x h = refl
picked-take (suc n) (b ∷ bs) x h = ap (λ (l : List ℕ). if has x 0 then b ∷ l else l) (picked-take n bs (x / 2) (half_lt n x h))

-- ---- the first

lowest_odd : (n S : ℕ) → S ≢ 0 → S < 2 ^ suc n → S % 2 ≡ 1 → lowest S ≡ 0
unfolding count_trailing_zeros
lowest_odd n S f h e = sym (lowest_trailing (suc n) S f h) ∙ rw e

lowest_even : (n S : ℕ) → S ≢ 0 → S < 2 ^ suc n → S % 2 ≡ 0 → S / 2 ≢ 0 → lowest S ≡ suc (lowest (S / 2))
unfolding count_trailing_zeros
lowest_even n S f h e g = sym (lowest_trailing (suc n) S f h) ∙ rw e (ap suc (lowest_trailing n (S / 2) g (half_lt n S h)))

half-⊕ : (a b : ℕ) → (a ⊕ b) / 2 ≡ a / 2 ⊕ b / 2
unfolding ◌⊕◌
half-⊕ a b = xor_shr a b 1

-- the row of the lowest bit of x, then the rows of the others
pub picked_first : (bs : List ℕ) (x : ℕ) → x ≢ 0 → x < 2 ^ length bs → picked bs x ≡ get_or bs (lowest x) 0 ∷ picked bs (x ⊕ 2 ^ lowest x)
unfolding picked
picked_first [] x f h = absurd (f (lt-one h))
picked_first (b ∷ bs) x f h = go (bit_cases x 0) (λ g. picked_first bs (x / 2) g (half_lt (length bs) x h))
  where
    go : (bit x 0 ≡ 0) ⊎ (bit x 0 ≡ 1)
        → (x / 2 ≢ 0 → picked bs (x / 2) ≡ get_or bs (lowest (x / 2)) 0 ∷ picked bs (x / 2 ⊕ 2 ^ lowest (x / 2)))
        → picked (b ∷ bs) x ≡ get_or (b ∷ bs) (lowest x) 0 ∷ picked (b ∷ bs) (x ⊕ 2 ^ lowest x)
    go (inl e) ih =
        let even : x % 2 ≡ 0 = sym (bit-low x) ∙ e in
        let g : x / 2 ≢ 0 = λ q. f (omega arith) in
        let j = lowest (x / 2) in
        let low : has (x ⊕ 2 ^ suc j) 0 ≡ false =
        has-zero (x ⊕ 2 ^ suc j) 0 (bit-⊕ x (2 ^ suc j) 0 ∙ rw (e, bit-pow_other (suc j) 0 (λ z. absurd (omega arith)))) in
        let power : 2 ^ suc j / 2 ≡ 2 ^ j = rw pow-suc (omega arith) in
        let half : (x ⊕ 2 ^ suc j) / 2 ≡ x / 2 ⊕ 2 ^ j = half-⊕ x (2 ^ suc j) ∙ ap (λ (y : ℕ). x / 2 ⊕ y) power in
        rw (lowest_even (length bs) x f h even g, has-zero x 0 e, low, half) (ih g)
    go (inr e) ih =
        let odd : x % 2 ≡ 1 = sym (bit-low x) ∙ e in
        let low : has (x ⊕ 1) 0 ≡ false = has-zero (x ⊕ 1) 0 (bit-⊕ x 1 0 ∙ rw (e, bit-pow-same 0)) in
        let half : (x ⊕ 1) / 2 ≡ x / 2 = half-⊕ x 1 ∙ ⊕-zero (x / 2) in
        rw (lowest_odd (length bs) x f h odd, has_one x 0 e, low, half)
