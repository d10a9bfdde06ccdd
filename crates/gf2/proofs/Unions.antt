-- The disks below n, and the disks that some set of a list holds: they are those that some word of its span holds.
-- Assumes nothing.
use mathlib.Core.Path.{◌≡◌, refl, sym, ap, ap₂, ◌∙◌, subst}
use mathlib.Core.Bool.{Bool, true, false, ◌||◌}
use mathlib.Core.Logic.{◌⊎◌, inl, inr, ⊎_elim}
use mathlib.Core.List.{List, [], ◌∷◌}
use Prim.Native.Nat.{ℕ, zero, suc, ◌+◌, ◌-◌, ◌/◌, ◌%◌, ◌^◌, ◌≤◌, ◌<◌, max}
use native.Mathlib.Nat.{not-suc-le-zero}
use native.Mathlib.Omega.{arith}
use lib.Bits.{bit_or, or_shr, or_mod, or_zero_l, or_zero_r}
use lib.Dec.{T, ltb}
use lib.ListN.{length, get_or}
use lib.Pow.{pow-lt, ones_lt, ones_split, high}
use Rattle.gf2.specs.Sets.{bit, has, first, ◌⊕◌, ◌∪◌, union}
use Rattle.gf2.specs.Span.{InSpan}
use Rattle.gf2.proofs.Tests.{dec, T-ext, ltb_in, ltb_out, below_or}
use Rattle.gf2.proofs.Bits.{bit_lt, bit_cases, by_digits, bit_above, has_one, has-zero, not-has, no_disk}
use Rattle.gf2.proofs.Xor.{⊕_comm}
use Rattle.gf2.proofs.Subsets.{⊆_out, ⊕-left, same-disks, power_in}
use Rattle.gf2.proofs.Spans.{first_in}
use Rattle.gf2.proofs.Sizes.{all-⊆}

-- ---- the disks below n

pub first-has : (n i : ℕ) → has (first n) i ≡ ltb i n
unfolding first
first-has n i =
    T-ext
    (λ t. ⊎_elim (λ l. ltb_in l) (λ l. absurd (not-has (2 ^ n - 1) i (bit_above n (2 ^ n - 1) i (ones_lt n) l) t)) (below_or i n))
    (λ t. ⊆_out (2 ^ i) (2 ^ n - 1) (all-⊆ n (2 ^ i) (pow-lt (ltb_out i n t))) i (power_in i))

-- all 32 disks, shifted until n are left
pub ones_shifted : (n : ℕ) → n ≤ 32 → (2 ^ 32 - 1) / 2 ^ (32 - n) ≡ first n
unfolding first
ones_shifted n h =
    let k = 32 - n in
    let e : 2 ^ 32 - 1 ≡ 2 ^ (n + k) - 1 = ap (λ (x : ℕ). 2 ^ x - 1) (let z : 32 ≡ n + k = omega arith in z) in
    ap (λ (x : ℕ). x / 2 ^ k) (e ∙ ones_split n k) ∙ high (2 ^ n - 1) k (ones_lt k)

-- ---- two sets

or_digit : (a b : ℕ) → a < 2 → b < 2 → bit_or a b ≡ max a b
or_digit = by_digits (λ (a b : ℕ). bit_or a b ≡ max a b) refl refl refl refl

bit-∪ : (a b i : ℕ) → bit (a ∪ b) i ≡ max (bit a i) (bit b i)
unfolding bit ◌∪◌
bit-∪ a b i =
    ap (λ (x : ℕ). x % 2) (or_shr a b i) ∙ or_mod (a / 2 ^ i) (b / 2 ^ i) 1
    ∙ or_digit (a / 2 ^ i % 2) (b / 2 ^ i % 2) (bit_lt a i) (bit_lt b i)

pub has-∪ : (a b i : ℕ) → has (a ∪ b) i ≡ (has a i || has b i)
has-∪ a b i = go (bit_cases a i) (bit_cases b i)
  where
    go : (bit a i ≡ 0) ⊎ (bit a i ≡ 1) → (bit b i ≡ 0) ⊎ (bit b i ≡ 1) → has (a ∪ b) i ≡ (has a i || has b i)
    go (inl p) (inl q) = rw (has-zero a i p, has-zero b i q) (has-zero (a ∪ b) i (bit-∪ a b i ∙ ap₂ max p q))
    go (inl p) (inr q) = rw (has-zero a i p, has_one b i q) (has_one (a ∪ b) i (bit-∪ a b i ∙ ap₂ max p q))
    go (inr p) (inl q) = rw (has_one a i p) (has_one (a ∪ b) i (bit-∪ a b i ∙ ap₂ max p q))
    go (inr p) (inr q) = rw (has_one a i p) (has_one (a ∪ b) i (bit-∪ a b i ∙ ap₂ max p q))

pub ∪-left : (a b i : ℕ) → T (has a i) → T (has (a ∪ b) i)
∪-left a b i m = subst T (sym (has-∪ a b i)) (go (has a i) m)
  where
    go : (t : Bool) → T t → T (t || has b i)
    go true u = tt
    go false u = absurd u

pub ∪-right : (a b i : ℕ) → T (has b i) → T (has (a ∪ b) i)
∪-right a b i m = subst T (sym (has-∪ a b i)) (go (has a i))
  where
    go : (t : Bool) → T (t || has b i)
    go true = tt
    go false = m

pub ∪_out : (a b i : ℕ) → T (has (a ∪ b) i) → T (has a i) ⊎ T (has b i)
∪_out a b i m = go (has a i) (subst T (has-∪ a b i) m)
  where
    go : (t : Bool) → T (t || has b i) → T t ⊎ T (has b i)
    go true u = inl tt
    go false u = inr u

pub ∪_assoc : (a b c : ℕ) → a ∪ b ∪ c ≡ a ∪ (b ∪ c)
∪_assoc a b c =
    same-disks (a ∪ b ∪ c) (a ∪ (b ∪ c))
    (λ i. has-∪ (a ∪ b) c i ∙ ap (λ (t : Bool). t || has c i) (has-∪ a b i) ∙ go (has a i) (has b i) (has c i)
    ∙ ap (λ (t : Bool). has a i || t) (sym (has-∪ b c i)) ∙ sym (has-∪ a (b ∪ c) i))
  where
    go : (s t u : Bool) → ((s || t) || u) ≡ (s || (t || u))
    go true t u = refl
    go false t u = refl

pub zero-∪ : (a : ℕ) → 0 ∪ a ≡ a
unfolding ◌∪◌
zero-∪ = or_zero_l

pub ∪-zero : (a : ℕ) → a ∪ 0 ≡ a
unfolding ◌∪◌
∪-zero = or_zero_r

-- ---- the sets of a list

pub union-row : (bs : List ℕ) (d i : ℕ) → i < length bs → T (has (get_or bs i 0) d) → T (has (union bs) d)
unfolding union
union-row [] d i l m = absurd (not-suc-le-zero l)
union-row (b ∷ bs) d zero l m = ∪-left b (union bs) d m
union-row (b ∷ bs) d (suc i) l m = ∪-right b (union bs) d (union-row bs d i (omega arith) m)

pub row_union : (bs : List ℕ) (d : ℕ) → T (has (union bs) d) → (i : ℕ) × (i < length bs) × T (has (get_or bs i 0) d)
unfolding union
row_union [] d t = absurd (no_disk d t)
row_union (b ∷ bs) d t =
    ⊎_elim (λ m. (0, omega arith, m)) (λ m. let r = row_union bs d m in (suc r.0, omega arith, r.2)) (∪_out b (union bs) d t)

-- ---- the words of their span

-- where the first row lacks d, a word with it holds d exactly where the rest of the word does
pub union-word : (bs : List ℕ) (d w : ℕ) → InSpan bs w → T (has w d) → T (has (union bs) d)
unfolding union
union-word [] d w e m = absurd (no_disk d (subst (λ (x : ℕ). T (has x d)) e m))
union-word (b ∷ bs) d w (inl s) m = ∪-right b (union bs) d (union-word bs d w s m)
union-word (b ∷ bs) d w (inr s) m = go (dec (has b d)) (union-word bs d (b ⊕ w) s)
  where
    go : T (has b d) ⊎ (T (has b d) → ⊥) → (T (has (b ⊕ w) d) → T (has (union bs) d)) → T (has (b ∪ union bs) d)
    go (inl t) rest = ∪-left b (union bs) d t
    go (inr f) rest = ∪-right b (union bs) d (rest (subst (λ (x : ℕ). T (has x d)) (⊕_comm w b) (⊕-left w b d m f)))

pub word-union : (bs : List ℕ) (d : ℕ) → T (has (union bs) d) → (w : ℕ) × InSpan bs w × T (has w d)
unfolding union
word-union [] d t = absurd (no_disk d t)
word-union (b ∷ bs) d t =
    ⊎_elim (λ m. (b, first_in b bs, m)) (λ m. let r = word-union bs d m in (r.0, inl r.1, r.2)) (∪_out b (union bs) d t)
