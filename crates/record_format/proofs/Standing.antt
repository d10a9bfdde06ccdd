-- A list that stands in a longer one from a place on: taken apart, put together, and the same of lists that follow each other.
-- Assumes nothing.
use mathlib.Core.Path.{◌≡◌, refl, sym, ap, ap₂, ◌∙◌, subst}
use mathlib.Core.Logic.{◌⊎◌, inl, inr}
use mathlib.Core.List.{List, ◌++◌, append_assoc, append-nil}
use Prim.Native.Nat.{ℕ, zero, suc, ◌+◌, ◌<◌}
use native.Mathlib.Nat.{not-suc-le-zero, add-zero}
use native.Mathlib.Omega.{arith}
use lib.ListN.{length, take, drop, length-append}
use lib.Seq.{take_at, take_all, take-length, take-take, take-add, drop-drop, drop-append_seam}
use Rattle.gf2.proofs.Tests.{below_suc}
use Rattle.flat.specs.Lists.{range, each}

abbrev pub Stands : List ℕ → ℕ → List ℕ → Type 0
Stands file at xs = take (length xs) (drop at file) ≡ xs

-- ---- one list, and two

-- the whole stands at its own front, and what stands at the front and is as long is the whole
pub stands_self : (file : List ℕ) → Stands file 0 file
stands_self file = take-length file

pub stands-whole : (file xs : List ℕ) → length file ≡ length xs → Stands file 0 xs → file ≡ xs
stands-whole file xs e s = sym (take_all (length xs) file (omega arith)) ∙ s

-- a part of known length
pub stands-take : (file : List ℕ) (at n : ℕ) (xs : List ℕ) → length xs ≡ n → Stands file at xs → take n (drop at file) ≡ xs
stands-take file at n xs e s = ap (λ (i : ℕ). take i (drop at file)) (sym e) ∙ s

pub take-stands : (file : List ℕ) (at n : ℕ) (xs : List ℕ) → length xs ≡ n → take n (drop at file) ≡ xs → Stands file at xs
take-stands file at n xs e s = ap (λ (i : ℕ). take i (drop at file)) e ∙ s

module _ (file : List ℕ) (at : ℕ) (xs ys : List ℕ) where
  -- both, one after the other
  both : take (length (xs ++ ys)) (drop at file) ≡ take (length xs) (drop at file) ++ take (length ys) (drop (at + length xs) file)
  both =
      ap (λ (n : ℕ). take n (drop at file)) (length-append xs ys) ∙ take-add (length xs) (length ys) (drop at file)
      ∙ ap (λ (l : List ℕ). take (length xs) (drop at file) ++ take (length ys) l) (drop-drop (length xs) at file)

  pub stands_join : (q : ℕ) → at + length xs ≡ q → Stands file at xs → Stands file q ys → Stands file at (xs ++ ys)
  stands_join q e s t = both ∙ ap₂ ◌++◌ s (subst (λ (p : ℕ). Stands file p ys) (sym e) t)

  pub stands-left : Stands file at (xs ++ ys) → Stands file at xs
  stands-left s =
      sym (take-take (length xs) (length (xs ++ ys)) (drop at file) (omega (arith, length-append xs ys)))
      ∙ ap (take (length xs)) s ∙ take_at xs ys (length xs) refl

  pub stands-right : (q : ℕ) → at + length xs ≡ q → Stands file at (xs ++ ys) → Stands file q ys
  stands-right q e s =
      let rest = take (length ys) (drop (at + length xs) file) in
      let whole : xs ++ rest ≡ xs ++ ys = ap (λ (l : List ℕ). l ++ rest) (sym (stands-left s)) ∙ sym both ∙ s in
      let r : rest ≡ ys = sym (drop-append_seam xs rest) ∙ ap (drop (length xs)) whole ∙ drop-append_seam xs ys in
      subst (λ (p : ℕ). Stands file p ys) e r

-- ---- lists that follow each other

-- one more at the end
each_more : (f : ℕ → List ℕ) (a n : ℕ) → each f (range a (suc n)) ≡ each f (range a n) ++ f (a + n)
unfolding each range
each_more f a zero = append-nil (f a) ∙ ap f (sym (add-zero a))
each_more f a (suc n) =
    ap (λ (l : List ℕ). f a ++ l) (each_more f (suc a) n) ∙ sym (append_assoc (f a) (each f (range (suc a) n)) (f (suc a + n)))
    ∙ ap (λ (i : ℕ). f a ++ each f (range (suc a) n) ++ f i) (let e : suc a + n ≡ a + suc n = omega arith in e)

pub each_last : (f : ℕ → List ℕ) (n : ℕ) → each f (range 0 (suc n)) ≡ each f (range 0 n) ++ f n
each_last f n = each_more f 0 n ∙ ap (λ (i : ℕ). each f (range 0 n) ++ f i) (let e : 0 + n ≡ n = omega arith in e)

-- f 0, .., f (n - 1), where f i starts at its place
module _ (f : ℕ → List ℕ) (place : ℕ → ℕ) where
  abbrev pub Follow : ℕ → Type 0
  Follow n = (i : ℕ) → i < n → place i + length (f i) ≡ place (suc i)

  pub length-each : (n : ℕ) → Follow n → place 0 + length (each f (range 0 n)) ≡ place n
  unfolding each range
  length-each zero h = add-zero (place 0)
  length-each (suc n) h =
      let e = length-each n (λ i l. h i (omega arith)) in
      let one = h n (omega arith) in
      ap (λ (l : List ℕ). place 0 + length l) (each_last f n) ∙ omega (arith, length-append (each f (range 0 n)) (f n))

  pub each_in : (file : List ℕ) (n : ℕ) → Follow n → ((i : ℕ) → i < n → Stands file (place i) (f i)) → Stands file (place 0) (each f (range 0 n))
  unfolding each range
  each_in file zero h s = refl
  each_in file (suc n) h s =
      let r = each_in file n (λ i l. h i (omega arith)) (λ i l. s i (omega arith)) in
      subst (Stands file (place 0)) (sym (each_last f n))
      (stands_join file (place 0) (each f (range 0 n)) (f n) (place n) (length-each n (λ i l. h i (omega arith))) r (s n (omega arith)))

  pub each_out : (file : List ℕ) (n : ℕ) → Follow n → Stands file (place 0) (each f (range 0 n)) → (i : ℕ) → i < n → Stands file (place i) (f i)
  each_out file zero h s i l = absurd (not-suc-le-zero l)
  each_out file (suc n) h s i l = go (below_suc i n l) (λ t k. each_out file n (λ j b. h j (omega arith)) t i k)
    where
      split : Stands file (place 0) (each f (range 0 n) ++ f n)
      split = subst (Stands file (place 0)) (each_last f n) s

      go : (i < n) ⊎ (i ≡ n) → (Stands file (place 0) (each f (range 0 n)) → i < n → Stands file (place i) (f i)) → Stands file (place i) (f i)
      go (inl k) rest = rest (stands-left file (place 0) (each f (range 0 n)) (f n) split) k
      go (inr e) rest =
          rw e (stands-right file (place 0) (each f (range 0 n)) (f n) (place n) (length-each n (λ j b. h j (omega arith))) split)
