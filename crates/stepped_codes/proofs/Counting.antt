-- The sets of disks below m whose size passes a test: those that lack disk m - 1, then those that have it. So their counts follow
-- Pascal's rule.
-- Assumes nothing.
use mathlib.Core.Path.{◌≡◌, refl, ap, ap₂, ◌∙◌}
use mathlib.Core.Bool.{Bool, true, false}
use mathlib.Core.List.{List, [], ◌∷◌, ◌++◌, map}
use Prim.Native.Nat.{ℕ, zero, suc, ◌+◌, ◌-◌, ◌*◌, ◌^◌, ◌<◌}
use native.Mathlib.Nat.{pow-suc, zero-mul}
use native.Mathlib.Omega.{arith}
use lib.Dec.{T, eqb}
use lib.ListN.{length, length-append, length-map}
use Rattle.std.specs.Prelude.{if◌then◌else◌}
use Rattle.gf2.specs.Sets.{size}
use Rattle.gf2.proofs.Tests.{T-ext, eqb_in, eqb_out, if_true, if_false}
use Rattle.flat.specs.Lists.{range, filter}
use Rattle.flat.proofs.Members.{range_out}
use Rattle.flat.proofs.Filters.{filter_cong, filter-append, filter_map, range_parts}
use Rattle.flat.proofs.Counts.{size_above}
use Rattle.stepped_codes.specs.Stepped.{choose}
use Rattle.stepped_codes.proofs.Combinations.{choose-none}
use Rattle.stepped_codes.proofs.Sizes.{from, from_in, from_out, from_suc}

-- ---- the sets below 2 ^ m by their size

abbrev pub sets : ℕ → (ℕ → Bool) → List ℕ
sets m P = filter (λ S. P (size S)) (range 0 (2 ^ m))

size_high : (m S : ℕ) → S < 2 ^ m → size (2 ^ m + S) ≡ suc (size S)
size_high m S l =
    let e : 2 ^ m + S ≡ S + 2 ^ m = omega arith in
    ap size e ∙ size_above m S true l ∙ (let z : size S + 1 ≡ suc (size S) = omega arith in z)

pub sets-suc : (m : ℕ) (P : ℕ → Bool) → sets (suc m) P ≡ sets m P ++ map (λ S. 2 ^ m + S) (sets m (λ s. P (suc s)))
sets-suc m P =
    let n = 2 ^ m in
    let p : ℕ → Bool = λ S. P (size S) in
    let twice : 2 ^ suc m ≡ n + n = pow-suc 2 m ∙ (let e : n * 2 ≡ n + n = omega arith in e) in
    ap (λ (b : ℕ). filter p (range 0 b)) twice ∙ ap (filter p) (range_parts n n) ∙ filter-append p (range 0 n) (map (λ S. n + S) (range 0 n))
    ∙ ap (λ (l : List ℕ). sets m P ++ l)
    (filter_map p (λ S. n + S) (range 0 n)
    ∙ ap (map (λ S. n + S))
    (filter_cong (λ S. p (n + S)) (λ S. P (suc (size S))) (range 0 n) (λ S t. ap P (size_high m S (let r = range_out 0 n S t in omega arith)))))

-- how many
unfoldable pub many : ℕ → (ℕ → Bool) → ℕ
many m P = length (sets m P)

pub many-suc : (m : ℕ) (P : ℕ → Bool) → many (suc m) P ≡ many m P + many m (λ s. P (suc s))
unfolding many
many-suc m P =
    ap length (sets-suc m P) ∙ length-append (sets m P) (map (λ S. 2 ^ m + S) (sets m (λ s. P (suc s))))
    ∙ ap (λ (n : ℕ). length (sets m P) + n) (length-map (sets m (λ s. P (suc s))) (λ S. 2 ^ m + S))

-- of no disks, the empty set alone
pub many-zero : (P : ℕ → Bool) → many 0 P ≡ (if P 0 then 1 else 0)
unfolding many filter range size
many-zero P = go (P 0)
  where
    go : (b : Bool) → length {A = ℕ} (if b then 0 ∷ [] else []) ≡ (if b then 1 else 0)
    go true = refl
    go false = refl

pub many_cong : (m : ℕ) (P Q : ℕ → Bool) → ((s : ℕ) → P s ≡ Q s) → many m P ≡ many m Q
unfolding many
many_cong m P Q e = ap length (filter_cong (λ S. P (size S)) (λ S. Q (size S)) (range 0 (2 ^ m)) (λ S t. e (size S)))

-- the test of one disk more, in other words
many_more : (m : ℕ) (P Q : ℕ → Bool) → ((s : ℕ) → P (suc s) ≡ Q s) → many (suc m) P ≡ many m P + many m Q
many_more m P Q e = many-suc m P ∙ ap (λ (n : ℕ). many m P + n) (many_cong m (λ s. P (suc s)) Q e)

none : (P : ℕ → Bool) → (T (P 0) → ⊥) → many 0 P ≡ 0
none P f = many-zero P ∙ if_false (P 0) 1 0 f

one : (P : ℕ → Bool) → T (P 0) → many 0 P ≡ 1
one P t = many-zero P ∙ if_true (P 0) 1 0 t

-- ---- of one size: Pascal's rule

eqb-suc : (a b : ℕ) → eqb (suc a) (suc b) ≡ eqb a b
eqb-suc a b = T-ext (λ t. eqb_in {a = a} {b = b} (let e = eqb_out (suc a) (suc b) t in omega arith)) (λ t. eqb_in (ap suc (eqb_out a b t)))

-- the sets of s disks below m
abbrev pub sized : ℕ → ℕ → List ℕ
sized m s = sets m (λ t. eqb t s)

pub sized-suc : (m r : ℕ) → sized (suc m) (suc r) ≡ sized m (suc r) ++ map (λ S. 2 ^ m + S) (sized m r)
sized-suc m r =
    sets-suc m (λ t. eqb t (suc r))
    ∙ ap (λ (l : List ℕ). sized m (suc r) ++ map (λ S. 2 ^ m + S) l)
    (filter_cong (λ S. eqb (suc (size S)) (suc r)) (λ S. eqb (size S) r) (range 0 (2 ^ m)) (λ S t. eqb-suc (size S) r))

pub many-size : (m r : ℕ) → many m (λ s. eqb s r) ≡ choose m r
unfolding choose
many-size zero zero = one (λ s. eqb s 0) tt
many-size zero (suc r) = none (λ s. eqb s (suc r)) (λ t. let e = eqb_out 0 (suc r) t in omega arith)
many-size (suc m) zero =
    many-suc m (λ s. eqb s 0) ∙ ap₂ ◌+◌ (many-size m 0 ∙ choose-none m) (never m (λ s. eqb (suc s) 0) (λ s t. let e = eqb_out (suc s) 0 t in omega arith))
  where
    never : (n : ℕ) (P : ℕ → Bool) → ((s : ℕ) → T (P s) → ⊥) → many n P ≡ 0
    never zero P f = none P (f 0)
    never (suc n) P f = many-suc n P ∙ ap₂ ◌+◌ (never n P f) (never n (λ s. P (suc s)) (λ s. f (suc s)))
many-size (suc m) (suc r) =
    many_more m (λ s. eqb s (suc r)) (λ s. eqb s r) (λ s. eqb-suc s r)
    ∙ (let a = many-size m (suc r) in
    let b = many-size m r in
    let z : many m (λ s. eqb s (suc r)) + many m (λ s. eqb s r) ≡ choose m r + choose m (suc r) = omega arith in z)

pub sized-length : (m s : ℕ) → length (sized m s) ≡ choose m s
unfolding many
sized-length m s = many-size m s

-- ---- of a first size, and steps up from it

from_more : (b e m : ℕ) → many (suc m) (from (suc b) e) ≡ many m (from (suc b) e) + many m (from b e)
from_more b e m = many_more m (from (suc b) e) (from b e) (λ s. from_suc b e s)

from_zero : (b e : ℕ) → many 0 (from (suc b) e) ≡ 0
from_zero b e = none (from (suc b) e) (λ t. let r = from_out (suc b) e 0 t in let h = r.1 in omega arith)

start : (e : ℕ) → many 0 (from 0 e) ≡ 1
start e = one (from 0 e) (from_in 0 e 0 0 (omega (arith, zero-mul (suc e))))

-- steps of 1: all, all but the empty set, all but those of one disk and it
from_all : (m : ℕ) → many m (from 0 0) ≡ 2 ^ m
from_all zero = start 0
from_all (suc m) =
    let a = many_more m (from 0 0) (from 0 0) (λ s. T-ext (λ t. from_in 0 0 s s (omega arith)) (λ t. from_in 0 0 (suc s) (suc s) (omega arith))) in
    rw pow-suc (omega (arith, a, from_all m))

from_one : (m : ℕ) → many m (from 1 0) + 1 ≡ 2 ^ m
from_one zero = omega (arith, from_zero 0 0)
from_one (suc m) = rw pow-suc (omega (arith, from_more 0 0 m, from_one m, from_all m))

pub from_two : (m : ℕ) → many m (from 2 0) + m + 1 ≡ 2 ^ m
from_two zero = omega (arith, from_zero 1 0)
from_two (suc m) = rw pow-suc (omega (arith, from_more 1 0 m, from_two m, from_one m))

-- steps of 2: the sets of even size are as many as those of odd size
even_more : (m : ℕ) → many (suc m) (from 0 1) ≡ many m (from 0 1) + many m (from 1 1)
even_more m =
    many_more m (from 0 1) (from 1 1)
    (λ s. T-ext (λ t. let r = from_out 0 1 (suc s) t in let h = r.1 in from_in 1 1 s (r.0 - 1) (omega arith))
    (λ t. let r = from_out 1 1 s t in let h = r.1 in from_in 0 1 (suc s) (suc r.0) (omega arith)))

halves : (m : ℕ) → (many (suc m) (from 0 1) ≡ 2 ^ m) × (many (suc m) (from 1 1) ≡ 2 ^ m)
halves zero =
    let o = from_zero 0 1 in
    let e = start 1 in
    (omega (arith, even_more 0), omega (arith, from_more 0 1 0))
halves (suc m) =
    let h = halves m in
    let e = h.0 in
    let o = h.1 in
    (rw pow-suc (omega (arith, even_more (suc m))), rw pow-suc (omega (arith, from_more 0 1 (suc m))))

even_two : (m : ℕ) → many (suc m) (from 2 1) + 1 ≡ 2 ^ m
even_two zero = omega (arith, from_more 1 1 0, from_zero 1 1, from_zero 0 1)
even_two (suc m) = rw pow-suc (omega (arith, from_more 1 1 (suc m), even_two m, (halves m).1))

pub odd_three : (m : ℕ) → many (suc m) (from 3 1) + suc m ≡ 2 ^ m
odd_three zero = omega (arith, from_more 2 1 0, from_zero 2 1, from_zero 1 1)
odd_three (suc m) = rw pow-suc (omega (arith, from_more 2 1 (suc m), odd_three m, even_two m))
