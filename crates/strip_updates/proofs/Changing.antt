-- A block of an update, and what the loop over blocks keeps: of the whole strip the last block and those below o have changed.
-- Assumes nothing.
use mathlib.Core.Path.{◌≡◌, sym, ap, ap₂, ◌∙◌, subst}
use mathlib.Core.Bool.{Bool}
use mathlib.Core.Logic.{◌⊎◌, inl, inr, ⊎_elim}
use mathlib.Core.List.{List}
use Prim.Native.Nat.{ℕ, ◌+◌, ◌-◌, ◌≤◌, ◌<◌}
use native.Mathlib.Omega.{arith}
use lib.Dec.{T}
use lib.ListN.{length, get_or}
use lib.Seq.{ext_get_or}
use Rattle.std.specs.Prelude.{if◌then◌else◌}
use Rattle.gf2.specs.Sets.{◌⊕◌}
use Rattle.gf2.proofs.Tests.{dec, below_or, if_true, if_false}
use Rattle.gf2.proofs.Xor.{⊕_assoc, ⊕-zero, ⊕_self, ⊕-back}
use Rattle.flat.specs.Lists.{tabulate, put}
use Rattle.flat.proofs.Lists.{length-tabulate, get_d_tabulate}
use Rattle.strip_blocks.specs.Totals.{total}
use Rattle.strip_blocks.specs.Places.{Apart}
use Rattle.strip_blocks.proofs.Totals.{total-zero}
use Rattle.strip_updates.specs.Changes.{from, change, share, shares, added, changed}
use Rattle.strip_updates.proofs.Shares.{from_in, from_out, share_out, share-at, share-sum, share-values, shares-none, shares-same, shares_sum, block-share, block-length}

module _ (q : ℕ) (at : List ℕ) (new : List ℕ) where
  -- ---- one block

  -- the change, XORed into the strip itself and into those of the list
  pub block-changed : (o w count : ℕ) (s₀ zeros block s₁ s₂ : List ℕ) → length zeros ≡ w → q + o + w ≤ length s₀
      → block ≡ tabulate (length zeros) (λ t. get_or s₀ (q + o + t) 0 ⊕ get_or new (o + t) 0)
      → s₁ ≡ put s₀ (q + o) (tabulate (length block) (λ t. get_or s₀ (q + o + t) 0 ⊕ get_or block t 0))
      → s₂ ≡ added o at count block s₁ → s₂ ≡ changed (from o w) q at count new s₀
  unfolding added changed
  block-changed o w count s₀ zeros block s₁ s₂ e fits made own each =
      ext_get_or 0 s₂ (tabulate (length s₀) goal) (long ∙ sym (length-tabulate (length s₀) goal))
      (λ p h. let l : p < length s₀ = subst (λ (x : ℕ). p < x) long h in
      ap (λ (s : List ℕ). get_or s p 0) each ∙ get_d_tabulate (length s₁) by p (omega (arith, first))
      ∙ ap (λ (x : ℕ). x ⊕ listed p) (block-share o q s₀ s₁ block p (omega (arith, full)) own)
      ∙ ⊕_assoc (get_or s₀ p 0) (share (from o (length block)) g q p) (listed p)
      ∙ ap (λ (x : ℕ). get_or s₀ p 0 ⊕ x) (shares-same q at count p (from o (length block)) (from o w) g (change q new s₀) (λ a. same a p))
      ∙ sym (get_d_tabulate (length s₀) goal p l))
    where
      goal : ℕ → ℕ
      goal p = get_or s₀ p 0 ⊕ shares (from o w) (change q new s₀) q at count p

      g : ℕ → ℕ
      g t = get_or block (t - o) 0

      listed : ℕ → ℕ
      listed p = total count (λ j. share (from o (length block)) g (get_or at j 0) p)

      by : ℕ → ℕ
      by p = get_or s₁ p 0 ⊕ listed p

      take : ℕ → ℕ
      take t = get_or s₀ (q + o + t) 0 ⊕ get_or new (o + t) 0

      full : length block ≡ w
      full = ap length made ∙ length-tabulate (length zeros) take ∙ e

      first : length s₁ ≡ length s₀
      first = ap length own ∙ block-length o q s₀ block (omega (arith, full))

      long : length s₂ ≡ length s₀
      long = ap length each ∙ length-tabulate (length s₁) by ∙ first

      -- the block is the change from o on
      right : (t : ℕ) → T (from o w t) → g t ≡ change q new s₀ t
      right t u =
          let m = from_out o w t u in
          let x : q + o + (t - o) ≡ q + t = omega (arith, m.0) in
          let y : o + (t - o) ≡ t = omega (arith, m.0) in
          ap (λ (s : List ℕ). get_or s (t - o) 0) made ∙ get_d_tabulate (length zeros) take (t - o) (omega (arith, m.0, m.1))
          ∙ ap₂ (λ (a b : ℕ). get_or s₀ a 0 ⊕ get_or new b 0) x y

      same : (a p : ℕ) → share (from o (length block)) g a p ≡ share (from o w) (change q new s₀) a p
      same a p = ap (λ (n : ℕ). share (from o n) g a p) full ∙ share-values (from o w) g (change q new s₀) a p right

  -- ---- block after block

  module _ (count : ℕ) where
    changed-length : (D : ℕ → Bool) (s : List ℕ) → length (changed D q at count new s) ≡ length s
    unfolding changed
    changed-length D s = length-tabulate (length s) (λ p. get_or s p 0 ⊕ shares D (change q new s) q at count p)

    pub changed-long : (D : ℕ → Bool) (s s' : List ℕ) → s' ≡ changed D q at count new s → length s' ≡ length s
    changed-long D s s' e = ap length e ∙ changed-length D s

    changed-byte : (D : ℕ → Bool) (s : List ℕ) (p : ℕ) → p < length s
        → get_or (changed D q at count new s) p 0 ≡ get_or s p 0 ⊕ shares D (change q new s) q at count p
    unfolding changed
    changed-byte D s p h = get_d_tabulate (length s) (λ p. get_or s p 0 ⊕ shares D (change q new s) q at count p) p h

    -- the bytes B after the bytes D: what is rewritten already has no change left
    pub changed-more : (l : ℕ) (D B E : ℕ → Bool) (s₀ s₁ s₂ : List ℕ) → q + l ≤ length s₀ → Apart q l at count
        → ((t : ℕ) → T (D t) → t < l) → ((t : ℕ) → T (B t) → t < l)
        → ((t : ℕ) → T (E t) → T (D t) ⊎ T (B t)) → ((t : ℕ) → T (D t) → T (E t)) → ((t : ℕ) → T (B t) → T (E t))
        → s₁ ≡ changed D q at count new s₀ → s₂ ≡ changed B q at count new s₁ → s₂ ≡ changed E q at count new s₀
    changed-more l D B E s₀ s₁ s₂ fits apart below within split d b e₁ e₂ =
        ext_get_or 0 s₂ (changed E q at count new s₀) (changed-long B s₁ s₂ e₂ ∙ long ∙ sym (changed-length E s₀))
        (λ p h. all p (subst (λ (x : ℕ). p < x) (changed-long B s₁ s₂ e₂ ∙ long) h))
      where
        f : ℕ → ℕ
        f = change q new s₀

        long : length s₁ ≡ length s₀
        long = changed-long D s₀ s₁ e₁

        at_first : (p : ℕ) → p < length s₀ → get_or s₁ p 0 ≡ get_or s₀ p 0 ⊕ shares D f q at count p
        at_first p h = ap (λ (x : List ℕ). get_or x p 0) e₁ ∙ changed-byte D s₀ p h

        -- no byte of the strip itself is one of a strip of the list
        none : (t j : ℕ) → t < l → (get_or at j 0 + l ≤ q) ⊎ (q + l ≤ get_or at j 0) → share D f (get_or at j 0) (q + t) ≡ 0
        none t j h (inl x) = share_out D f (get_or at j 0) (q + t) (λ k u. let m = below (q + t - get_or at j 0) u in omega arith)
        none t j h (inr x) = share_out D f (get_or at j 0) (q + t) (λ k u. omega arith)

        own : (t : ℕ) → t < l → get_or s₁ (q + t) 0 ≡ get_or s₀ (q + t) 0 ⊕ (if D t then f t else 0)
        own t h =
            at_first (q + t) (omega arith)
            ∙ ap (λ (x : ℕ). get_or s₀ (q + t) 0 ⊕ x)
            (ap₂ ◌⊕◌ (share-at D f q t) (total-zero count (λ j. share D f (get_or at j 0) (q + t)) (λ j m. none t j h (apart j m)))
            ∙ ⊕-zero (if D t then f t else 0))

        left : (t : ℕ) → T (B t) → change q new s₁ t ≡ (if D t then 0 else f t)
        left t u = ap (λ (x : ℕ). x ⊕ get_or new t 0) (own t (within t u)) ∙ go (dec (D t))
          where
            go : T (D t) ⊎ (T (D t) → ⊥) → get_or s₀ (q + t) 0 ⊕ (if D t then f t else 0) ⊕ get_or new t 0 ≡ (if D t then 0 else f t)
            go (inl x) =
                ap (λ (y : ℕ). get_or s₀ (q + t) 0 ⊕ y ⊕ get_or new t 0) (if_true (D t) (f t) 0 x)
                ∙ ap (λ (y : ℕ). y ⊕ get_or new t 0) (⊕-back (get_or s₀ (q + t) 0) (get_or new t 0)) ∙ ⊕_self (get_or new t 0) ∙ sym (if_true (D t) 0 (f t) x)
            go (inr g) =
                ap (λ (y : ℕ). get_or s₀ (q + t) 0 ⊕ y ⊕ get_or new t 0) (if_false (D t) (f t) 0 g)
                ∙ ap (λ (y : ℕ). y ⊕ get_or new t 0) (⊕-zero (get_or s₀ (q + t) 0)) ∙ sym (if_false (D t) 0 (f t) g)

        all : (p : ℕ) → p < length s₀ → get_or s₂ p 0 ≡ get_or (changed E q at count new s₀) p 0
        all p h =
            let g = change q new s₁ in
            ap (λ (x : List ℕ). get_or x p 0) e₂ ∙ changed-byte B s₁ p (omega (arith, long)) ∙ ap (λ (x : ℕ). x ⊕ shares B g q at count p) (at_first p h)
            ∙ ⊕_assoc (get_or s₀ p 0) (shares D f q at count p) (shares B g q at count p)
            ∙ ap (λ (x : ℕ). get_or s₀ p 0 ⊕ x) (shares_sum q at count p D B E f g f (λ a. share-sum D B E f g a p split d b left))
            ∙ sym (changed-byte E s₀ p h)

    -- ---- the whole strip: its last block, and then the blocks below o

    pub below_none : (s : List ℕ) → s ≡ changed (from 0 0) q at count new s
    below_none s =
        ext_get_or 0 s (changed (from 0 0) q at count new s) (sym (changed-length (from 0 0) s))
        (λ p h. sym (changed-byte (from 0 0) s p h
        ∙ ap (λ (x : ℕ). get_or s p 0 ⊕ x) (shares-none q at count p (from 0 0) (change q new s) (λ a. none a p)) ∙ ⊕-zero (get_or s p 0)))
      where
        none : (a p : ℕ) → share (from 0 0) (change q new s) a p ≡ 0
        none a p = share_out (from 0 0) (change q new s) a p (λ h u. let x = (from_out 0 0 (p - a) u).1 in omega arith)

    module _ (l w : ℕ) (s₀ : List ℕ) (fits : q + l ≤ length s₀) (apart : Apart q l at count) where
      pub below_more : (s s' : List ℕ) (o : ℕ) → o + w ≤ l → s ≡ changed (from 0 o) q at count new s₀ → s' ≡ changed (from o w) q at count new s
          → s' ≡ changed (from 0 (o + w)) q at count new s₀
      below_more s s' o h r e =
          changed-more l (from 0 o) (from o w) (from 0 (o + w)) s₀ s s' fits apart
          (λ t u. let x = (from_out 0 o t u).1 in omega arith)
          (λ t u. let x = (from_out o w t u).1 in omega arith)
          (λ t u. let x = (from_out 0 (o + w) t u).1 in
          ⊎_elim (λ y. inl (from_in 0 o t (omega arith) (omega arith))) (λ y. inr (from_in o w t y (omega arith))) (below_or t o))
          (λ t u. let x = (from_out 0 o t u).1 in from_in 0 (o + w) t (omega arith) (omega arith))
          (λ t u. let x = (from_out o w t u).1 in from_in 0 (o + w) t (omega arith) (omega arith))
          r e

      pub below_all : (s₁ s : List ℕ) (o : ℕ) → w ≤ l → o ≤ l → l ≤ o + w → s₁ ≡ changed (from (l - w) w) q at count new s₀
          → s ≡ changed (from 0 o) q at count new s₁ → s ≡ changed (from 0 l) q at count new s₀
      below_all s₁ s o k h m r e =
          changed-more l (from (l - w) w) (from 0 o) (from 0 l) s₀ s₁ s fits apart
          (λ t u. let x = (from_out (l - w) w t u).1 in omega arith)
          (λ t u. let x = (from_out 0 o t u).1 in omega arith)
          (λ t u. let x = (from_out 0 l t u).1 in
          ⊎_elim (λ y. inr (from_in 0 o t (omega arith) (omega arith))) (λ y. inl (from_in (l - w) w t (omega arith) (omega arith))) (below_or t o))
          (λ t u. let x = (from_out (l - w) w t u).1 in from_in 0 l t (omega arith) (omega arith))
          (λ t u. let x = (from_out 0 o t u).1 in from_in 0 l t (omega arith) (omega arith))
          r e
