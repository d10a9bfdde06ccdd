-- What one byte is XORed with as one of a strip that changes.
-- Assumes nothing.
use mathlib.Core.Path.{◌≡◌, sym, ap, ap₂, ◌∙◌, subst}
use mathlib.Core.Bool.{Bool, ◌&&◌}
use mathlib.Core.Logic.{◌⊎◌, inl, inr, ⊎_elim}
use mathlib.Core.List.{List}
use Prim.Native.Nat.{ℕ, ◌+◌, ◌-◌, ◌≤◌, ◌<◌}
use native.Mathlib.Omega.{arith}
use lib.Dec.{T, leb, ltb}
use lib.ListN.{length, get_or}
use Rattle.std.specs.Prelude.{if◌then◌else◌}
use Rattle.gf2.specs.Sets.{◌⊕◌}
use Rattle.gf2.proofs.Tests.{dec, and_in, and_out, leb_in, leb_out, ltb_in, ltb_out, below_or, if_true, if_false}
use Rattle.gf2.proofs.Xor.{⊕-zero, zero-⊕, ⊕_four}
use Rattle.flat.specs.Lists.{tabulate, put}
use Rattle.flat.proofs.Lists.{length-tabulate, get_d_tabulate, length-put, put-before, put-new, put-after}
use Rattle.strip_blocks.specs.Totals.{total}
use Rattle.strip_blocks.proofs.Totals.{total_cong, total-⊕, total-zero}
use Rattle.strip_updates.specs.Changes.{from, share, shares}

-- the bytes from o on, before o + w
pub from_in : (o w t : ℕ) → o ≤ t → t < o + w → T (from o w t)
unfolding from
from_in o w t h k = and_in (leb o t) (ltb t (o + w)) (leb_in h) (ltb_in k)

pub from_out : (o w t : ℕ) → T (from o w t) → (o ≤ t) × (t < o + w)
unfolding from
from_out o w t u = let p = and_out (leb o t) (ltb t (o + w)) u in (leb_out o t p.0, ltb_out t (o + w) p.1)

module _ (D : ℕ → Bool) (f : ℕ → ℕ) (a p : ℕ) where
  pub share_in : a ≤ p → T (D (p - a)) → share D f a p ≡ f (p - a)
  unfolding share
  share_in h t = if_true (leb a p && D (p - a)) (f (p - a)) 0 (and_in (leb a p) (D (p - a)) (leb_in h) t)

  pub share_out : (a ≤ p → T (D (p - a)) → ⊥) → share D f a p ≡ 0
  unfolding share
  share_out g = if_false (leb a p && D (p - a)) (f (p - a)) 0 (λ t. let q = and_out (leb a p) (D (p - a)) t in g (leb_out a p q.0) q.1)

-- of a byte of the strip itself
pub share-at : (D : ℕ → Bool) (f : ℕ → ℕ) (a t : ℕ) → share D f a (a + t) ≡ (if D t then f t else 0)
share-at D f a t =
    ⊎_elim (λ u. share_in D f a (a + t) (omega arith) (subst (λ (x : ℕ). T (D x)) (sym e) u) ∙ ap f e ∙ sym (if_true (D t) (f t) 0 u))
    (λ g. share_out D f a (a + t) (λ h u. g (subst (λ (x : ℕ). T (D x)) e u)) ∙ sym (if_false (D t) (f t) 0 g)) (dec (D t))
  where
    e : a + t - a ≡ t
    e = omega arith

-- first the bytes D, and then the bytes B, of which those of D have nothing left: together the bytes E
pub share-sum : (D B E : ℕ → Bool) (f f' : ℕ → ℕ) (a p : ℕ)
    → ((t : ℕ) → T (E t) → T (D t) ⊎ T (B t)) → ((t : ℕ) → T (D t) → T (E t)) → ((t : ℕ) → T (B t) → T (E t))
    → ((t : ℕ) → T (B t) → f' t ≡ (if D t then 0 else f t)) → share D f a p ⊕ share B f' a p ≡ share E f a p
share-sum D B E f f' a p split d b left = go (below_or p a) (dec (D (p - a))) (dec (B (p - a)))
  where
    go : (p < a) ⊎ (a ≤ p) → T (D (p - a)) ⊎ (T (D (p - a)) → ⊥) → T (B (p - a)) ⊎ (T (B (p - a)) → ⊥)
        → share D f a p ⊕ share B f' a p ≡ share E f a p
    go (inl h) x y =
        ap₂ ◌⊕◌ (share_out D f a p (λ k u. omega arith)) (share_out B f' a p (λ k u. omega arith)) ∙ ⊕-zero 0
        ∙ sym (share_out E f a p (λ k u. omega arith))
    go (inr h) (inl x) (inl y) =
        ap₂ ◌⊕◌ (share_in D f a p h x) (share_in B f' a p h y ∙ left (p - a) y ∙ if_true (D (p - a)) 0 (f (p - a)) x) ∙ ⊕-zero (f (p - a))
        ∙ sym (share_in E f a p h (d (p - a) x))
    go (inr h) (inl x) (inr y) =
        ap₂ ◌⊕◌ (share_in D f a p h x) (share_out B f' a p (λ k. y)) ∙ ⊕-zero (f (p - a)) ∙ sym (share_in E f a p h (d (p - a) x))
    go (inr h) (inr x) (inl y) =
        ap₂ ◌⊕◌ (share_out D f a p (λ k. x)) (share_in B f' a p h y ∙ left (p - a) y ∙ if_false (D (p - a)) 0 (f (p - a)) x) ∙ zero-⊕ (f (p - a))
        ∙ sym (share_in E f a p h (b (p - a) y))
    go (inr h) (inr x) (inr y) =
        ap₂ ◌⊕◌ (share_out D f a p (λ k. x)) (share_out B f' a p (λ k. y)) ∙ ⊕-zero 0
        ∙ sym (share_out E f a p (λ k u. ⊎_elim x y (split (p - a) u)))

-- the same values at these bytes
pub share-values : (D : ℕ → Bool) (f g : ℕ → ℕ) (a p : ℕ) → ((t : ℕ) → T (D t) → f t ≡ g t) → share D f a p ≡ share D g a p
share-values D f g a p e = go (below_or p a) (dec (D (p - a)))
  where
    go : (p < a) ⊎ (a ≤ p) → T (D (p - a)) ⊎ (T (D (p - a)) → ⊥) → share D f a p ≡ share D g a p
    go (inl h) x = share_out D f a p (λ k u. omega arith) ∙ sym (share_out D g a p (λ k u. omega arith))
    go (inr h) (inl x) = share_in D f a p h x ∙ e (p - a) x ∙ sym (share_in D g a p h x)
    go (inr h) (inr x) = share_out D f a p (λ k. x) ∙ sym (share_out D g a p (λ k. x))

-- what holds of each share holds of their sum
module _ (q : ℕ) (at : List ℕ) (count p : ℕ) where
  pub shares-none : (D : ℕ → Bool) (f : ℕ → ℕ) → ((a : ℕ) → share D f a p ≡ 0) → shares D f q at count p ≡ 0
  shares-none D f e = ap₂ ◌⊕◌ (e q) (total-zero count (λ j. share D f (get_or at j 0) p) (λ j l. e (get_or at j 0))) ∙ ⊕-zero 0

  pub shares-same : (D E : ℕ → Bool) (f g : ℕ → ℕ) → ((a : ℕ) → share D f a p ≡ share E g a p) → shares D f q at count p ≡ shares E g q at count p
  shares-same D E f g e =
      ap₂ ◌⊕◌ (e q) (total_cong count (λ j. share D f (get_or at j 0) p) (λ j. share E g (get_or at j 0) p) (λ j l. e (get_or at j 0)))

  pub shares_sum : (D B E : ℕ → Bool) (f g h : ℕ → ℕ) → ((a : ℕ) → share D f a p ⊕ share B g a p ≡ share E h a p)
      → shares D f q at count p ⊕ shares B g q at count p ≡ shares E h q at count p
  shares_sum D B E f g h e =
      ⊕_four (share D f q p) (total count x) (share B g q p) (total count y)
      ∙ ap₂ ◌⊕◌ (e q) (total-⊕ count x y ∙ total_cong count (λ j. x j ⊕ y j) (λ j. share E h (get_or at j 0) p) (λ j l. e (get_or at j 0)))
    where
      x : ℕ → ℕ
      x j = share D f (get_or at j 0) p

      y : ℕ → ℕ
      y j = share B g (get_or at j 0) p

-- a block XORed into a strip, from the strip's byte o on
module _ (o a : ℕ) where
  abbrev sums : List ℕ → List ℕ → ℕ → ℕ
  sums s block t = get_or s (a + o + t) 0 ⊕ get_or block t 0

  pub block-length : (s block : List ℕ) → a + o + length block ≤ length s → length (put s (a + o) (tabulate (length block) (sums s block))) ≡ length s
  block-length s block fits =
      length-put s (a + o) (tabulate (length block) (sums s block)) (omega (arith, length-tabulate (length block) (sums s block)))

  pub block-share : (s s' block : List ℕ) (p : ℕ) → a + o + length block ≤ length s → s' ≡ put s (a + o) (tabulate (length block) (sums s block))
      → get_or s' p 0 ≡ get_or s p 0 ⊕ share (from o (length block)) (λ t. get_or block (t - o) 0) a p
  block-share s s' block p fits e = ap (λ (x : List ℕ). get_or x p 0) e ∙ go (below_or p (a + o)) (below_or p (a + o + w))
    where
      w : ℕ
      w = length block

      f : ℕ → ℕ
      f t = get_or block (t - o) 0

      xored : List ℕ
      xored = tabulate w (sums s block)

      full : length xored ≡ w
      full = length-tabulate w (sums s block)

      outside : (a ≤ p → T (from o w (p - a)) → ⊥) → get_or s p 0 ≡ get_or s p 0 ⊕ share (from o w) f a p
      outside n = sym (ap (λ (x : ℕ). get_or s p 0 ⊕ x) (share_out (from o w) f a p n) ∙ ⊕-zero (get_or s p 0))

      go : (p < a + o) ⊎ (a + o ≤ p) → (p < a + o + w) ⊎ (a + o + w ≤ p) → get_or (put s (a + o) xored) p 0 ≡ get_or s p 0 ⊕ share (from o w) f a p
      go (inl h) k = put-before s (a + o) xored w fits full p h ∙ outside (λ m u. let x = (from_out o w (p - a) u).0 in omega arith)
      go (inr h) (inr k) = put-after s (a + o) xored w fits full p k ∙ outside (λ m u. let x = (from_out o w (p - a) u).1 in omega arith)
      go (inr h) (inl k) =
          let t = p - (a + o) in
          let x : a + o + t ≡ p = omega arith in
          let y : t ≡ p - a - o = omega arith in
          let m : t < w = omega arith in
          ap (λ (i : ℕ). get_or (put s (a + o) xored) i 0) (sym x) ∙ put-new s (a + o) xored w fits full t m ∙ get_d_tabulate w (sums s block) t m
          ∙ ap₂ (λ (i j : ℕ). get_or s i 0 ⊕ get_or block j 0) x y
          ∙ sym (ap (λ (v : ℕ). get_or s p 0 ⊕ v) (share_in (from o w) f a p (omega arith) (from_in o w (p - a) (omega arith) (omega arith))))
