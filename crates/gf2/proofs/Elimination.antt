-- What `within` does to a span and to independence, row by row: a cleared row, rows cleared by one, and what is left inside the set.
-- Assumes nothing.
use mathlib.Core.Path.{◌≡◌, refl, sym, ap, ◌∙◌, subst}
use mathlib.Core.Bool.{Bool, true, false}
use mathlib.Core.Logic.{◌⊎◌, inl, inr, ⊎_elim, ◌↔◌}
use mathlib.Core.List.{List, [], ◌∷◌, map}
use Prim.Native.Nat.{ℕ, zero, suc, ◌+◌, ◌%◌}
use native.Mathlib.Nat.{mod-eq_of_lt, zero-add}
use native.Mathlib.Omega.{arith}
use lib.Dec.{T}
use lib.ListN.{length, length-map}
use Rattle.std.specs.Prelude.{if◌then◌else◌}
use Rattle.gf2.specs.Sets.{bit, has, ◌⊕◌, ◌∖◌, ◌⊆◌}
use Rattle.gf2.specs.Span.{InSpan, Independent}
use Rattle.gf2.specs.Within.{lowest, clear, within}
use Rattle.gf2.proofs.Tests.{dec, T_true, T_false}
use Rattle.gf2.proofs.Bits.{bit_lt, bit_cases, bit-of-zero, bit-⊕, has_out, has-not, not-has, has_one, has-zero}
use Rattle.gf2.proofs.Xor.{⊕_assoc, ⊕_comm, ⊕_self, ⊕-zero, ⊕-back, ⊕-swap, ⊕_cancel}
use Rattle.gf2.proofs.Subsets.{⊆_out, zero-⊆, ⊕-⊆, ∖_out, none-⊆, lowest-has}
use Rattle.gf2.proofs.Spans.{at}

-- ---- a cleared row

-- the row, or the row and b
pub clear-is : (d b v : ℕ) → (clear d b v ≡ v) ⊎ (clear d b v ≡ v ⊕ b)
unfolding clear
clear-is d b v = go (has v d)
  where
    go : (t : Bool) → ((if t then v ⊕ b else v) ≡ v) ⊎ ((if t then v ⊕ b else v) ≡ v ⊕ b)
    go true = inr refl
    go false = inl refl

-- XORed with w, and with b and w: what v gives, in one order or the other
abbrev Kept : ℕ → ℕ → ℕ → ℕ → Type 0
Kept b v c w = (c ⊕ w ≡ v ⊕ w) × (b ⊕ (c ⊕ w) ≡ v ⊕ (b ⊕ w))

abbrev Moved : ℕ → ℕ → ℕ → ℕ → Type 0
Moved b v c w = (c ⊕ w ≡ v ⊕ (b ⊕ w)) × (b ⊕ (c ⊕ w) ≡ v ⊕ w)

clear-sum : (d b v w : ℕ) → Kept b v (clear d b v) w ⊎ Moved b v (clear d b v) w
unfolding clear
clear-sum d b v w = go (has v d)
  where
    go : (t : Bool) → Kept b v (if t then v ⊕ b else v) w ⊎ Moved b v (if t then v ⊕ b else v) w
    go true = inr (⊕_assoc v b w, ap (λ (x : ℕ). b ⊕ x) (⊕_assoc v b w) ∙ ⊕-swap b v (b ⊕ w) ∙ ap (λ (x : ℕ). v ⊕ x) (⊕-back b w))
    go false = inl (refl, ⊕-swap b v w)

-- an XOR with a word without the disk keeps the disk
bit-same : (d a w : ℕ) → bit a d ≡ 0 → bit (a ⊕ w) d ≡ bit w d
bit-same d a w e = bit-⊕ a w d ∙ ap (λ (x : ℕ). (x + bit w d) % 2) e ∙ ap (λ (x : ℕ). x % 2) (zero-add (bit w d)) ∙ mod-eq_of_lt (bit_lt w d)

-- ---- rows cleared of disk d by a row b that has it

module _ (d b : ℕ) (hb : bit b d ≡ 1) where
  pub clear_out : (v : ℕ) → bit (clear d b v) d ≡ 0
  unfolding clear
  clear_out v = go (bit_cases v d)
    where
      go : (bit v d ≡ 0) ⊎ (bit v d ≡ 1) → bit (if has v d then v ⊕ b else v) d ≡ 0
      go (inl e) = rw (has-zero v d e) e
      go (inr e) = rw (has_one v d e) (bit-⊕ v b d ∙ rw (e, hb))

  -- they span the words of b and the rows that are without d
  pub cleared_in : (bs : List ℕ) (w : ℕ) → InSpan (map (clear d b) bs) w → (bit w d ≡ 0) × InSpan (b ∷ bs) w
  cleared_in [] w h = (ap (λ (x : ℕ). bit x d) h ∙ bit-of-zero d, inl h)
  cleared_in (v ∷ bs) w (inl h) =
      let p = cleared_in bs w h in
      (p.0, ⊎_elim (λ x. inl (inl x)) (λ x. inr (inl x)) p.1)
  cleared_in (v ∷ bs) w (inr h) =
      let p = cleared_in bs (clear d b v ⊕ w) h in (
        sym (bit-same d (clear d b v) w (clear_out v)) ∙ p.0,
        ⊎_elim
            (λ k. ⊎_elim (λ x. inl (inr (at bs k.0 x))) (λ x. inr (inr (at bs k.1 x))) p.1)
            (λ k. ⊎_elim (λ x. inr (inr (at bs k.0 x))) (λ x. inl (inr (at bs k.1 x))) p.1)
            (clear-sum d b v w),
      )

  pub cleared-back : (bs : List ℕ) (w : ℕ) → bit w d ≡ 0 → InSpan (b ∷ bs) w → InSpan (map (clear d b) bs) w
  cleared-back [] w h (inl e) = e
  cleared-back [] w h (inr e) = absurd (let z : bit b d ≡ bit w d = ap (λ (x : ℕ). bit x d) (⊕_cancel b w e) in omega arith)
  cleared-back (v ∷ bs) w h (inl (inl x)) = inl (cleared-back bs w h (inl x))
  cleared-back (v ∷ bs) w h (inr (inl x)) = inl (cleared-back bs w h (inr x))
  cleared-back (v ∷ bs) w h (inl (inr x)) =
      inr
      (cleared-back bs (clear d b v ⊕ w) (bit-same d (clear d b v) w (clear_out v) ∙ h)
      (⊎_elim (λ k. inl (at bs (sym k.0) x)) (λ k. inr (at bs (sym k.1) x)) (clear-sum d b v w)))
  cleared-back (v ∷ bs) w h (inr (inr x)) =
      inr
      (cleared-back bs (clear d b v ⊕ w) (bit-same d (clear d b v) w (clear_out v) ∙ h)
      (⊎_elim (λ k. inr (at bs (sym k.1) x)) (λ k. inl (at bs (sym k.0) x)) (clear-sum d b v w)))

  pub cleared-indep : (bs : List ℕ) → Independent (b ∷ bs) → Independent (map (clear d b) bs)
  cleared-indep [] i = tt
  cleared-indep (v ∷ bs) ((i, nv), nb) = (
    cleared-indep bs (i, λ s. nb (inl s)),
    λ s. ⊎_elim
        (λ e. ⊎_elim (λ x. nv (at bs e x)) (λ x. nb (inr (at bs (ap (λ (y : ℕ). b ⊕ y) e ∙ ⊕_comm b v) x))) (cleared_in bs (clear d b v) s).1)
        (λ e. ⊎_elim (λ x. nb (inr (at bs e x)))
        (λ x. nv (at bs (ap (λ (y : ℕ). b ⊕ y) e ∙ ⊕-swap b v b ∙ ap (λ (y : ℕ). v ⊕ y) (⊕_self b) ∙ ⊕-zero v) x))
        (cleared_in bs (clear d b v) s).1)
        (clear-is d b v),
  )

-- ---- `within`, row by row

pub within-nil : (S : ℕ) → within S [] ≡ []
unfolding within
within-nil S = refl

pub within-cons : (S b : ℕ) (bs : List ℕ)
    → within S (b ∷ bs) ≡ (if b ⊆ S then b ∷ within S bs else within S (map (clear (lowest (b ∖ S)) b) bs))
unfolding within
within-cons S b bs = rw length-map

pub within-kept : (S b : ℕ) (bs : List ℕ) → T (b ⊆ S) → within S (b ∷ bs) ≡ b ∷ within S bs
within-kept S b bs t = within-cons S b bs ∙ rw (T_true {b = b ⊆ S} t)

pub within_dropped : (S b : ℕ) (bs : List ℕ) → (T (b ⊆ S) → ⊥) → within S (b ∷ bs) ≡ within S (map (clear (lowest (b ∖ S)) b) bs)
within_dropped S b bs f = within-cons S b bs ∙ rw (T_false {b = b ⊆ S} f)

-- the lowest disk of a dropped row outside S is in the row and not in S
pub dropped_has : (S b : ℕ) → (T (b ⊆ S) → ⊥) → (bit b (lowest (b ∖ S)) ≡ 1) × (bit S (lowest (b ∖ S)) ≡ 0)
dropped_has S b f =
    let d = lowest (b ∖ S) in
    let p = ∖_out b S d (lowest-has (b ∖ S) (λ e. f (none-⊆ b S e))) in
    (has_out b d p.0, has-not S d p.1)

-- what holds of no rows, and goes on from the later rows where the first is kept, and from those cleared where it is dropped, holds of all rows
module _ (S : ℕ) (P : List ℕ → Type 0) (none : P []) (kept : (b : ℕ) (bs : List ℕ) → T (b ⊆ S) → P bs → P (b ∷ bs))
    (dropped : (b : ℕ) (bs : List ℕ) → (T (b ⊆ S) → ⊥) → P (map (clear (lowest (b ∖ S)) b) bs) → P (b ∷ bs)) where
  by_length : (n : ℕ) (bs : List ℕ) → length bs ≡ n → P bs
  by_length zero [] e = none
  by_length (suc n) [] e = absurd (omega arith)
  by_length zero (b ∷ bs) e = absurd (omega arith)
  by_length (suc n) (b ∷ bs) e =
      go
      (λ c l. by_length n c (l ∙ (let h : length bs ≡ n = omega arith in h)))
      (dec (b ⊆ S))
    where
      go : ((c : List ℕ) → length c ≡ length bs → P c) → T (b ⊆ S) ⊎ (T (b ⊆ S) → ⊥) → P (b ∷ bs)
      go ih (inl t) = kept b bs t (ih bs refl)
      go ih (inr f) = dropped b bs f (ih (map (clear (lowest (b ∖ S)) b) bs) (length-map bs (clear (lowest (b ∖ S)) b)))

  pub by_rows : (bs : List ℕ) → P bs
  by_rows bs = by_length (length bs) bs refl

-- ---- the words inside S

-- l spans the words of the span of bs that lie inside S
abbrev pub SpansInside : ℕ → List ℕ → List ℕ → Type 0
SpansInside S bs l = (w : ℕ) → InSpan l w ↔ (InSpan bs w × T (w ⊆ S))

spans-none : (S : ℕ) → SpansInside S [] []
spans-none S w = (λ e. (e, subst (λ (x : ℕ). T (x ⊆ S)) (sym e) (zero-⊆ S)), λ p. p.0)

-- with b, w is inside S where b ⊕ w is
add_back : (S b w : ℕ) → T (b ⊆ S) → T (b ⊕ w ⊆ S) → T (w ⊆ S)
add_back S b w t u = subst (λ (x : ℕ). T (x ⊆ S)) (⊕-back b w) (⊕-⊆ b (b ⊕ w) S t u)

spans-kept : (S b : ℕ) (bs l : List ℕ) → T (b ⊆ S) → SpansInside S bs l → SpansInside S (b ∷ bs) (b ∷ l)
spans-kept S b bs l t ih w = (
  λ h. ⊎_elim
      (λ x. let p = (ih w).0 x in (inl p.0, p.1))
      (λ x. let p = (ih (b ⊕ w)).0 x in (inr p.0, add_back S b w t p.1))
      h,
  λ p. ⊎_elim (λ x. inl ((ih w).1 (x, p.1))) (λ x. inr ((ih (b ⊕ w)).1 (x, ⊕-⊆ b w S t p.1))) p.0,
)

spans_dropped : (S b : ℕ) (bs l : List ℕ) → (T (b ⊆ S) → ⊥)
    → SpansInside S (map (clear (lowest (b ∖ S)) b) bs) l → SpansInside S (b ∷ bs) l
spans_dropped S b bs l f ih w =
    let d = lowest (b ∖ S) in
    let h = dropped_has S b f in (
      λ x. let p = (ih w).0 x in ((cleared_in d b h.0 bs w p.0).1, p.1),
      λ p. (ih w).1 (cleared-back d b h.0 bs w (has-not w d (λ m. not-has S d h.1 (⊆_out w S p.1 d m))) p.0, p.1),
    )

-- ---- the theorems

pub within-spans : (S : ℕ) (bs : List ℕ) → SpansInside S bs (within S bs)
within-spans S =
    by_rows S (λ bs. SpansInside S bs (within S bs)) (rw (within-nil S) (spans-none S))
    (λ b bs t ih. rw (within-kept S b bs t) (spans-kept S b bs (within S bs) t ih))
    (λ b bs f ih. rw (within_dropped S b bs f) (spans_dropped S b bs (within S (map (clear (lowest (b ∖ S)) b) bs)) f ih))

pub within-indep : (S : ℕ) (bs : List ℕ) → Independent bs → Independent (within S bs)
within-indep S =
    by_rows S (λ bs. Independent bs → Independent (within S bs)) (λ i. rw (within-nil S) tt)
    (λ b bs t ih i. rw (within-kept S b bs t) (ih i.0, λ h. i.1 ((within-spans S bs b).0 h).0))
    (λ b bs f ih i. rw (within_dropped S b bs f) (ih (cleared-indep (lowest (b ∖ S)) b (dropped_has S b f).0 bs i)))
