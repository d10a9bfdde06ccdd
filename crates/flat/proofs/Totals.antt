-- Sums. Entries counted by a key add up to the list: ordering by a key repeats none, and loses none where every key is below the bound.
-- Assumes nothing.
use mathlib.Core.Path.{◌≡◌, refl, sym, ap, ◌∙◌}
use mathlib.Core.Logic.{⊎_elim}
use mathlib.Core.List.{List, [], ◌∷◌, ◌++◌}
use Prim.Native.Nat.{ℕ, zero, suc, ◌+◌, ◌-◌, ◌≤◌, ◌<◌}
use native.Mathlib.Omega.{arith}
use lib.Dec.{eqb, ltb}
use lib.ListN.{length, replicate}
use Rattle.gf2.proofs.Tests.{dec, eqb_in, eqb_out, ltb_in, ltb_out}
use Rattle.flat.specs.Lists.{sum, tabulate, filter, ordered_by, padded}
use Rattle.flat.proofs.Lists.{constant, tabulate_cong}
use Rattle.flat.proofs.Members.{In}
use Rattle.flat.proofs.Filters.{filter-nil, filter-yes, filter-not, filter-all, filter-length}
use Rattle.flat.proofs.Blocks.{block, ordered-length}

-- counts of which one is larger by 1
sum-raised : (n k : ℕ) (f g : ℕ → ℕ) → k < n → g k ≡ suc (f k) → ((v : ℕ) → (v ≡ k → ⊥) → g v ≡ f v) → sum (tabulate n g) ≡ suc (sum (tabulate n f))
unfolding sum tabulate
sum-raised zero k f g h e r = absurd (omega arith)
sum-raised (suc n) zero f g h e r =
    let t : sum (tabulate n (λ i. g (suc i))) ≡ sum (tabulate n (λ i. f (suc i))) =
    ap sum (tabulate_cong n (λ i. g (suc i)) (λ i. f (suc i)) (λ i l. r (suc i) (λ q. omega arith))) in
    omega arith
sum-raised (suc n) (suc k) f g h e r =
    let t = sum-raised n k (λ i. f (suc i)) (λ i. g (suc i)) (omega arith) e (λ v q. r (suc v) (λ p. q (omega arith))) in
    let z : g 0 ≡ f 0 = r 0 (λ q. omega arith) in
    omega arith

pub sum_zeros : (n : ℕ) (f : ℕ → ℕ) → ((v : ℕ) → f v ≡ 0) → sum (tabulate n f) ≡ 0
unfolding sum tabulate
sum_zeros zero f h = omega arith
sum_zeros (suc n) f h = omega (arith, h 0, sum_zeros n (λ i. f (suc i)) (λ v. h (suc v)))

pub sum-append : (xs ys : List ℕ) → sum (xs ++ ys) ≡ sum xs + sum ys
unfolding sum
sum-append [] ys = omega arith
sum-append (x ∷ xs) ys = omega (arith, sum-append xs ys)

-- zeros behind a list add nothing
pub sum-padded : (n : ℕ) (xs : List ℕ) → sum (padded n xs) ≡ sum xs
unfolding padded
sum-padded n xs =
    let k = n - length xs in
    omega (arith, sum-append xs (replicate k 0), ap sum (constant k 0), sum_zeros k (λ i. 0) (λ v. refl))

module _ (key : ℕ → ℕ) (b : ℕ) where
  abbrev many : List ℕ → ℕ → ℕ
  many xs v = length (block key xs v)

  -- the counts of the keys below b add up to the entries that have such a key
  counts-below : (xs : List ℕ) → sum (tabulate b (many xs)) ≡ length (filter (λ x. ltb (key x) b) xs)
  counts-below [] = sum_zeros b (many []) (λ v. ap length (filter-nil (λ x. eqb (key x) v))) ∙ sym (ap length (filter-nil (λ x. ltb (key x) b)))
  counts-below (x ∷ xs) =
      ⊎_elim
      (λ t. sum-raised b (key x) (many xs) (many (x ∷ xs)) (ltb_out (key x) b t)
      (ap length (filter-yes (λ y. eqb (key y) (key x)) x xs (eqb_in {a = key x} refl)))
      (λ v q. ap length (filter-not (λ y. eqb (key y) v) x xs (λ e. q (sym (eqb_out (key x) v e)))))
      ∙ ap suc (counts-below xs) ∙ sym (ap length (filter-yes (λ y. ltb (key y) b) x xs t)))
      (λ f. ap sum (tabulate_cong b (many (x ∷ xs)) (many xs)
      (λ v l. ap length (filter-not (λ y. eqb (key y) v) x xs (λ e. let q : key x ≡ v = eqb_out (key x) v e in let k : key x < b = omega arith in f (ltb_in k)))))
      ∙ counts-below xs ∙ sym (ap length (filter-not (λ y. ltb (key y) b) x xs f)))
      (dec (ltb (key x) b))

  pub ordered-most : (xs : List ℕ) → length (ordered_by key b xs) ≤ length xs
  ordered-most xs = omega (arith, ordered-length key xs b, counts-below xs, filter-length (λ x. ltb (key x) b) xs)

  pub ordered-whole : (xs : List ℕ) → ((x : ℕ) → In x xs → key x < b) → length (ordered_by key b xs) ≡ length xs
  ordered-whole xs h = ordered-length key xs b ∙ counts-below xs ∙ ap length (filter-all (λ x. ltb (key x) b) xs (λ x t. ltb_in (h x t)))
