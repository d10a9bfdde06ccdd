-- Laws of `over`, the XOR of f over the disks of a set, and of `select`, which is `over` of the rows.
-- Assumes nothing.
use mathlib.Core.Path.{◌≡◌, refl, sym, ap, ap₂, ◌∙◌, subst}
use mathlib.Core.Bool.{Bool, true, false}
use mathlib.Core.Logic.{◌⊎◌, inl, inr, ⊎_elim}
use mathlib.Core.List.{List, [], ◌∷◌}
use Prim.Native.Nat.{ℕ, zero, suc, ◌+◌, ◌*◌, ◌/◌, ◌%◌, ◌^◌, ◌<◌}
use native.Mathlib.Nat.{pow-suc, not-suc-le-zero, lt_irrefl, add-zero, add-suc}
use native.Mathlib.Omega.{arith}
use lib.Dec.{T, eqb}
use lib.ListN.{length, get_or}
use lib.Pow.{pow_pos}
use Rattle.std.specs.Prelude.{if◌then◌else◌}
use Rattle.gf2.specs.Sets.{bit, has, ◌⊕◌, ◌∖◌, over}
use Rattle.gf2.specs.Span.{InSpan, select}
use Rattle.gf2.proofs.Tests.{dec, T_true, T_false, eqb_in, eqb_out, below_suc}
use Rattle.gf2.proofs.Bits.{bit_cases, bit-low, bit-suc, bit-of-zero, bit_shift, bit-pow, bit-⊕, bit-⊕_bits, not-has, has_one, has-zero, has_if}
use Rattle.gf2.proofs.Xor.{⊕_assoc, ⊕_self, zero-⊕, ⊕-zero, ⊕-back, ⊕_four, ⊕_lt}
use Rattle.gf2.proofs.Subsets.{∖_in, ∖_out, less-back}
use Rattle.gf2.proofs.Spans.{at}

-- ---- over

-- only the disks of S below n matter
pub over_cong : (n S : ℕ) (f g : ℕ → ℕ) → ((i : ℕ) → i < n → T (has S i) → f i ≡ g i) → over n S f ≡ over n S g
unfolding over
over_cong zero S f g h = refl
over_cong (suc n) S f g h =
    ap₂ (λ (x y : ℕ). x ⊕ y) (over_cong n S f g (λ i l. h i (omega arith))) (go (has S n) (h n (omega arith)))
  where
    go : (b : Bool) → (T b → f n ≡ g n) → (if b then f n else 0) ≡ (if b then g n else 0)
    go true e = e tt
    go false e = refl

-- linear in the set
pub over-⊕ : (n x y : ℕ) (f : ℕ → ℕ) → over n (x ⊕ y) f ≡ over n x f ⊕ over n y f
unfolding over
over-⊕ zero x y f = sym (⊕_self 0)
over-⊕ (suc n) x y f =
    ap₂ (λ (a b : ℕ). a ⊕ b) (over-⊕ n x y f) (go (bit_cases x n) (bit_cases y n))
    ∙ ⊕_four (over n x f) (over n y f) (if has x n then f n else 0) (if has y n then f n else 0)
  where
    go : (bit x n ≡ 0) ⊎ (bit x n ≡ 1) → (bit y n ≡ 0) ⊎ (bit y n ≡ 1)
        → (if has (x ⊕ y) n then f n else 0) ≡ (if has x n then f n else 0) ⊕ (if has y n then f n else 0)
    go (inl p) (inl q) =
        rw (has-zero x n p, has-zero y n q, has-zero (x ⊕ y) n (bit-⊕ x y n ∙ rw (p, q))) (sym (⊕_self 0))
    go (inl p) (inr q) =
        rw (has-zero x n p, has_one y n q, has_one (x ⊕ y) n (bit-⊕ x y n ∙ rw (p, q))) (sym (zero-⊕ (f n)))
    go (inr p) (inl q) =
        rw (has_one x n p, has-zero y n q, has_one (x ⊕ y) n (bit-⊕ x y n ∙ rw (p, q))) (sym (⊕-zero (f n)))
    go (inr p) (inr q) =
        rw (has_one x n p, has_one y n q, has-zero (x ⊕ y) n (bit-⊕ x y n ∙ rw (p, q))) (sym (⊕_self (f n)))

-- linear in f
pub over-sum : (n S : ℕ) (f g : ℕ → ℕ) → over n S (λ i. f i ⊕ g i) ≡ over n S f ⊕ over n S g
unfolding over
over-sum zero S f g = sym (⊕_self 0)
over-sum (suc n) S f g =
    ap₂ (λ (a b : ℕ). a ⊕ b) (over-sum n S f g) (go (has S n))
    ∙ ⊕_four (over n S f) (over n S g) (if has S n then f n else 0) (if has S n then g n else 0)
  where
    go : (b : Bool) → (if b then f n ⊕ g n else 0) ≡ (if b then f n else 0) ⊕ (if b then g n else 0)
    go true = refl
    go false = sym (⊕_self 0)

pub over_zero : (n S : ℕ) → over n S (λ i. 0) ≡ 0
unfolding over
over_zero zero S = refl
over_zero (suc n) S = ap₂ (λ (a b : ℕ). a ⊕ b) (over_zero n S) (go (has S n)) ∙ ⊕_self 0
  where
    go : (b : Bool) → ◌≡◌ {A = ℕ} (if b then 0 else 0) 0
    go true = refl
    go false = refl

pub over_none : (n : ℕ) (f : ℕ → ℕ) → over n 0 f ≡ 0
over_none n f = over_cong n 0 f (λ i. 0) (λ i l t. absurd (not-has 0 i (bit-of-zero i) t)) ∙ over_zero n 0

pub over-bit : (n S : ℕ) (f : ℕ → ℕ) (d : ℕ) → bit (over n S f) d ≡ over n S (λ i. bit (f i) d)
unfolding over
over-bit zero S f d = bit-of-zero d
over-bit (suc n) S f d =
    bit-⊕_bits (over n S f) (if has S n then f n else 0) d ∙ ap₂ (λ (a b : ℕ). a ⊕ b) (over-bit n S f d) (go (has S n))
  where
    go : (b : Bool) → bit (if b then f n else 0) d ≡ (if b then bit (f n) d else 0)
    go true = refl
    go false = bit-of-zero d

pub over_lt : (k n S : ℕ) (f : ℕ → ℕ) → ((i : ℕ) → i < n → T (has S i) → f i < 2 ^ k) → over n S f < 2 ^ k
unfolding over
over_lt k zero S f h = pow_pos k
over_lt k (suc n) S f h =
    ⊕_lt k (over n S f) (if has S n then f n else 0) (over_lt k n S f (λ i l. h i (omega arith))) (go (has S n) (h n (omega arith)))
  where
    go : (b : Bool) → (T b → f n < 2 ^ k) → (if b then f n else 0) < 2 ^ k
    go true l = l tt
    go false l = pow_pos k

-- the first disk, and the others one place down
pub over_first : (n S : ℕ) (f : ℕ → ℕ) → over (suc n) S f ≡ (if has S 0 then f 0 else 0) ⊕ over n (S / 2) (λ i. f (suc i))
unfolding over has
over_first zero S f = zero-⊕ (if has S 0 then f 0 else 0) ∙ sym (⊕-zero (if has S 0 then f 0 else 0))
over_first (suc n) S f =
    ap₂ (λ (a b : ℕ). a ⊕ (if eqb b 1 then f (suc n) else 0)) (over_first n S f) (bit-suc S n)
    ∙ ⊕_assoc (if has S 0 then f 0 else 0) (over n (S / 2) (λ i. f (suc i))) (if has (S / 2) n then f (suc n) else 0)

pub if_has : (S i : ℕ) → (if has S i then 1 else 0) ≡ bit S i
if_has S i = ⊎_elim (λ e. rw (has-zero S i e) (sym e)) (λ e. rw (has_one S i e) (sym e)) (bit_cases S i)

-- sets with the same disks below n
pub over-set : (n R S : ℕ) (f : ℕ → ℕ) → ((i : ℕ) → i < n → has R i ≡ has S i) → over n R f ≡ over n S f
unfolding over
over-set zero R S f h = refl
over-set (suc n) R S f h =
    ap₂ (λ (a : ℕ) (b : Bool). a ⊕ (if b then f n else 0)) (over-set n R S f (λ i l. h i (omega arith))) (h n (omega arith))

-- a set with one disk below n
pub over-only : (n S d : ℕ) (f : ℕ → ℕ) → d < n → ((i : ℕ) → i < n → has S i ≡ eqb i d) → over n S f ≡ f d
unfolding over
over-only zero S d f l h = absurd (not-suc-le-zero l)
over-only (suc n) S d f l h = go (below_suc d n l) (λ m. over-only n S d f m (λ i k. h i (omega arith)))
  where
    go : (d < n) ⊎ (d ≡ n) → (d < n → over n S f ≡ f d) → over n S f ⊕ (if has S n then f n else 0) ≡ f d
    go (inl m) rest =
        rw (h n (omega arith), T_false {b = eqb n d} (λ u. lt_irrefl n (subst (λ (y : ℕ). y < n) (sym (eqb_out n d u)) m)))
        (⊕-zero (over n S f) ∙ rest m)
    go (inr q) rest =
        rw (h n (omega arith), T_true {b = eqb n d} (eqb_in (sym q)))
        (ap (λ (a : ℕ). a ⊕ f n)
        (over_cong n S f (λ i. 0)
        (λ i m t. absurd (lt_irrefl n (subst (λ (y : ℕ). y < n) (eqb_out i d (subst T (h i (omega arith)) t) ∙ q) m)))
        ∙ over_zero n S)
        ∙ zero-⊕ (f n) ∙ ap f (sym q))

-- the set of one disk
pub over-disk : (n d : ℕ) (f : ℕ → ℕ) → d < n → over n (2 ^ d) f ≡ f d
over-disk n d f l = over-only n (2 ^ d) d f l (λ i m. has_if (2 ^ d) i (eqb i d) (bit-pow d i))

-- a disk taken out of a set
pub over-without : (n S d : ℕ) (f : ℕ → ℕ) → d < n → T (has S d) → over n S f ≡ over n (S ∖ 2 ^ d) f ⊕ f d
over-without n S d f l t =
    ap (λ (R : ℕ). over n R f) (sym (less-back S d t)) ∙ over-⊕ n (S ∖ 2 ^ d) (2 ^ d) f ∙ ap (λ (x : ℕ). over n (S ∖ 2 ^ d) f ⊕ x) (over-disk n d f l)

-- the disks below k, and those from k on
pub over-append : (k m S : ℕ) (f : ℕ → ℕ) → over (k + m) S f ≡ over k S f ⊕ over m (S / 2 ^ k) (λ j. f (k + j))
unfolding over has
over-append k zero S f = ap (λ (n : ℕ). over n S f) (add-zero k) ∙ sym (⊕-zero (over k S f))
over-append k (suc m) S f =
    ap (λ (n : ℕ). over n S f) (add-suc k m)
    ∙ ap₂ (λ (a b : ℕ). a ⊕ (if eqb b 1 then f (k + m) else 0)) (over-append k m S f) (sym (bit_shift k S m))
    ∙ ⊕_assoc (over k S f) (over m (S / 2 ^ k) (λ j. f (k + j))) (if has (S / 2 ^ k) m then f (k + m) else 0)

-- a sum over a sum
pub over-over : (k n S : ℕ) (f g : ℕ → ℕ) → over k (over n S f) g ≡ over n S (λ i. over k (f i) g)
unfolding over
over-over k zero S f g = over_none k g
over-over k (suc n) S f g =
    over-⊕ k (over n S f) (if has S n then f n else 0) g ∙ ap₂ (λ (a b : ℕ). a ⊕ b) (over-over k n S f g) (go (has S n))
  where
    go : (b : Bool) → over k (if b then f n else 0) g ≡ (if b then over k (f n) g else 0)
    go true = refl
    go false = over_none k g

-- without the disks of S
pub over-less : (n R S : ℕ) (f : ℕ → ℕ) → over n R (λ i. if has S i then 0 else f i) ≡ over n (R ∖ S) f
unfolding over
over-less zero R S f = refl
over-less (suc n) R S f = ap₂ (λ (a b : ℕ). a ⊕ b) (over-less n R S f) (go (dec (has R n)) (dec (has S n)))
  where
    go : T (has R n) ⊎ (T (has R n) → ⊥) → T (has S n) ⊎ (T (has S n) → ⊥)
        → (if has R n then (if has S n then 0 else f n) else 0) ≡ (if has (R ∖ S) n then f n else 0)
    go (inl p) (inl q) = rw (T_true {b = has R n} p, T_true {b = has S n} q, T_false {b = has (R ∖ S) n} (λ t. (∖_out R S n t).1 q))
    go (inl p) (inr q) = rw (T_true {b = has R n} p, T_false {b = has S n} q, T_true {b = has (R ∖ S) n} (∖_in R S n p q))
    go (inr p) q = rw (T_false {b = has R n} p, T_false {b = has (R ∖ S) n} (λ t. p (∖_out R S n t).0))

-- the XOR of the bits of x in c is that of the bits of c in x
pub over_comm : (n c x : ℕ) → over n c (bit x) ≡ over n x (bit c)
unfolding over
over_comm zero c x = refl
over_comm (suc n) c x = ap₂ (λ (a b : ℕ). a ⊕ b) (over_comm n c x) (go (bit_cases c n) (bit_cases x n))
  where
    go : (bit c n ≡ 0) ⊎ (bit c n ≡ 1) → (bit x n ≡ 0) ⊎ (bit x n ≡ 1) → (if has c n then bit x n else 0) ≡ (if has x n then bit c n else 0)
    go (inl p) (inl q) = rw (has-zero c n p, has-zero x n q)
    go (inl p) (inr q) = rw (has-zero c n p, has_one x n q) (sym p)
    go (inr p) (inl q) = rw (has_one c n p, has-zero x n q) q
    go (inr p) (inr q) = rw (has_one c n p, has_one x n q) (q ∙ sym p)

-- a sum with one term, written in two ways
pub over_power : (n S d : ℕ) → d < n → over n S (bit (2 ^ d)) ≡ bit S d
over_power n S d l =
    over_comm n S (2 ^ d) ∙ over-disk n d (bit S) l

-- values of which one alone is not 0
pub over-at : (n S d v : ℕ) → d < n → over n S (λ i. if eqb d i then v else 0) ≡ (if has S d then v else 0)
unfolding over
over-at zero S d v l = absurd (not-suc-le-zero l)
over-at (suc n) S d v l = go (below_suc d n l) (over-at n S d v)
  where
    f : ℕ → ℕ
    f i = if eqb d i then v else 0

    never : (b : Bool) → ◌≡◌ {A = ℕ} (if b then 0 else 0) 0
    never true = refl
    never false = refl

    other : (i : ℕ) → (d ≡ i → ⊥) → f i ≡ 0
    other i g = rw (T_false {b = eqb d i} (λ t. g (eqb_out d i t)))

    go : (d < n) ⊎ (d ≡ n) → (d < n → over n S f ≡ (if has S d then v else 0)) → over n S f ⊕ (if has S n then f n else 0) ≡ (if has S d then v else 0)
    go (inl m) rest =
        ap₂ (λ (x y : ℕ). x ⊕ (if has S n then y else 0)) (rest m) (other n (λ e. lt_irrefl n (subst (λ (x : ℕ). x < n) e m)))
        ∙ ap (λ (x : ℕ). (if has S d then v else 0) ⊕ x) (never (has S n)) ∙ ⊕-zero (if has S d then v else 0)
    go (inr e) rest =
        ap₂ (λ (x y : ℕ). x ⊕ (if has S n then y else 0))
        (over_cong n S f (λ i. 0) (λ i m t. other i (λ q. lt_irrefl n (subst (λ (x : ℕ). x < n) (sym q ∙ e) m))) ∙ over_zero n S) (rw (T_true {b = eqb d n} (eqb_in e)))
        ∙ zero-⊕ (if has S n then v else 0) ∙ ap (λ (i : ℕ). if has S i then v else 0) (sym e)

pub over-one : (n S d : ℕ) → d < n → over n S (λ i. if eqb d i then 1 else 0) ≡ bit S d
over-one n S d l = over-at n S d 1 l ∙ if_has S d

-- ---- select

pub select-⊕ : (bs : List ℕ) (x y : ℕ) → select bs (x ⊕ y) ≡ select bs x ⊕ select bs y
unfolding select
select-⊕ bs x y = over-⊕ (length bs) x y (λ i. get_or bs i 0)

pub select-cons : (b : ℕ) (bs : List ℕ) (x : ℕ) → select (b ∷ bs) x ≡ (if has x 0 then b else 0) ⊕ select bs (x / 2)
unfolding select
select-cons b bs x = over_first (length bs) x (λ i. get_or (b ∷ bs) i 0)

-- what x selects is in the span
pub select_in : (bs : List ℕ) (x : ℕ) → InSpan bs (select bs x)
unfolding select
select_in [] x = refl
select_in (b ∷ bs) x = at (b ∷ bs) (sym (select-cons b bs x)) (go (has x 0) (select_in bs (x / 2)))
  where
    go : (t : Bool) → InSpan bs (select bs (x / 2)) → InSpan (b ∷ bs) ((if t then b else 0) ⊕ select bs (x / 2))
    go true h = inr (at bs (sym (⊕-back b (select bs (x / 2)))) h)
    go false h = inl (at bs (sym (zero-⊕ (select bs (x / 2)))) h)

select_even : (b : ℕ) (bs : List ℕ) (x : ℕ) → select (b ∷ bs) (x * 2) ≡ select bs x
select_even b bs x =
    let low : x * 2 % 2 ≡ 0 = omega arith in
    let half : x * 2 / 2 ≡ x = omega arith in
    select-cons b bs (x * 2) ∙ rw (has-zero (x * 2) 0 (bit-low (x * 2) ∙ low), half) (zero-⊕ (select bs x))

select_odd : (b : ℕ) (bs : List ℕ) (x : ℕ) → select (b ∷ bs) (x * 2 + 1) ≡ b ⊕ select bs x
select_odd b bs x =
    let low : (x * 2 + 1) % 2 ≡ 1 = omega arith in
    let half : (x * 2 + 1) / 2 ≡ x = omega arith in
    select-cons b bs (x * 2 + 1) ∙ rw (has_one (x * 2 + 1) 0 (bit-low (x * 2 + 1) ∙ low), half)

-- and each word of the span is selected
pub in_select : (bs : List ℕ) (w : ℕ) → InSpan bs w → (x : ℕ) × (x < 2 ^ length bs) × (select bs x ≡ w)
unfolding select
in_select [] w h = (0, omega arith, sym h)
in_select (b ∷ bs) w (inl h) =
    let r = in_select bs w h in (r.0 * 2, rw pow-suc (omega (arith, r.1)), select_even b bs r.0 ∙ r.2)
in_select (b ∷ bs) w (inr h) =
    let r = in_select bs (b ⊕ w) h in (
      r.0 * 2 + 1,
      rw pow-suc (omega (arith, r.1)),
      select_odd b bs r.0 ∙ ap (λ (y : ℕ). b ⊕ y) r.2 ∙ ⊕-back b w,
    )
