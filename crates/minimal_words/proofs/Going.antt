-- Independent rows whose XOR is w, gone through in order: where a row is dropped, the later rows, cleared by it, are such rows again;
-- a row inside w before the last leaves two rows; the last row is w itself, and one row is left. Assumes nothing.
use mathlib.Core.Path.{◌≡◌, refl, sym, ap, ap₂, ◌∙◌, subst}
use mathlib.Core.Bool.{Bool, true, false}
use mathlib.Core.Logic.{◌⊎◌, inl, inr, ◌≢◌}
use mathlib.Core.List.{List, [], ◌∷◌, map}
use Prim.Native.Nat.{ℕ, suc, ◌+◌, ◌*◌, ◌%◌, ◌^◌, ◌<◌}
use native.Mathlib.Omega.{arith}
use borrow.Author.Tests.{eq-eqb, ne_eqb}
use lib.Bits.{bit_xor}
use lib.Dec.{T, eqb}
use lib.ListN.{length, get_or, take, length-map}
use Rattle.std.specs.Prelude.{if◌then◌else◌}
use Rattle.gf2.specs.Sets.{bit, has, ◌⊕◌, ◌∖◌, ◌⊆◌}
use Rattle.gf2.specs.Span.{InSpan, Independent, select}
use Rattle.gf2.specs.Within.{lowest, clear, within}
use Rattle.gf2.proofs.Bits.{bit_lt, bit_cases, bit-of-zero, bit-⊕, has_one, has-zero, one_shifted}
use Rattle.gf2.proofs.Xor.{⊕_comm, ⊕_self, zero-⊕, ⊕-zero, ⊕-back, ⊕_cancel, ⊕_four}
use Rattle.gf2.proofs.Subsets.{⊆-refl, ⊕-⊆, less-⊕, lowest-has, lowest-less}
use Rattle.gf2.proofs.Spans.{at}
use Rattle.gf2.proofs.Elimination.{cleared-indep, within-nil, within-kept, within_dropped, dropped_has, within-spans}
use Rattle.minimal_words.specs.Systematic.{Systematic}
use Rattle.minimal_words.proofs.Picked.{picked, sum, sum-picked, sum_in_span, picked-indep, picked-map, picked_none, picked-take, picked_first}
use Rattle.minimal_words.proofs.Owned.{owned_indep, picked-one}

-- ---- the XOR of cleared rows

clear_zero : (d b : ℕ) → clear d b 0 ≡ 0
unfolding clear
clear_zero d b = rw (has-zero 0 d (bit-of-zero d))

-- what clearing adds to a row
added : ℕ → ℕ → ℕ → ℕ
added d b v = if has v d then b else 0

clear-added : (d b v : ℕ) → clear d b v ≡ v ⊕ added d b v
unfolding clear added
clear-added d b v = go (has v d)
  where
    go : (t : Bool) → (if t then v ⊕ b else v) ≡ v ⊕ (if t then b else 0)
    go true = refl
    go false = sym (⊕-zero v)

added-⊕ : (d b u v : ℕ) → added d b (u ⊕ v) ≡ added d b u ⊕ added d b v
unfolding added
added-⊕ d b u v = go (bit_cases u d) (bit_cases v d)
  where
    go : (bit u d ≡ 0) ⊎ (bit u d ≡ 1) → (bit v d ≡ 0) ⊎ (bit v d ≡ 1)
        → (if has (u ⊕ v) d then b else 0) ≡ (if has u d then b else 0) ⊕ (if has v d then b else 0)
    go (inl p) (inl q) = rw (has-zero u d p, has-zero v d q, has-zero (u ⊕ v) d (bit-⊕ u v d ∙ rw (p, q))) (sym (⊕_self 0))
    go (inl p) (inr q) = rw (has-zero u d p, has_one v d q, has_one (u ⊕ v) d (bit-⊕ u v d ∙ rw (p, q))) (sym (zero-⊕ b))
    go (inr p) (inl q) = rw (has_one u d p, has-zero v d q, has_one (u ⊕ v) d (bit-⊕ u v d ∙ rw (p, q))) (sym (⊕-zero b))
    go (inr p) (inr q) = rw (has_one u d p, has_one v d q, has-zero (u ⊕ v) d (bit-⊕ u v d ∙ rw (p, q))) (sym (⊕_self b))

clear-⊕ : (d b u v : ℕ) → clear d b (u ⊕ v) ≡ clear d b u ⊕ clear d b v
clear-⊕ d b u v =
    clear-added d b (u ⊕ v) ∙ ap (λ (y : ℕ). u ⊕ v ⊕ y) (added-⊕ d b u v) ∙ ⊕_four u v (added d b u) (added d b v)
    ∙ ap₂ (λ (y z : ℕ). y ⊕ z) (sym (clear-added d b u)) (sym (clear-added d b v))

sum-cleared : (d b : ℕ) (bs : List ℕ) → sum (map (clear d b) bs) ≡ clear d b (sum bs)
sum-cleared d b [] = sym (clear_zero d b)
sum-cleared d b (v ∷ bs) = ap (λ (y : ℕ). clear d b v ⊕ y) (sum-cleared d b bs) ∙ sym (clear-⊕ d b v (sum bs))

-- a row with the disk
cleared-one : (d b v : ℕ) → bit v d ≡ 1 → clear d b v ≡ b ⊕ v
unfolding clear
cleared-one d b v e = rw (has_one v d e) (⊕_comm v b)

-- ---- a row at a time

-- the rows still to go through, where `start` are those that it began with
pub record Going (w : ℕ) (start rows : List ℕ) : Type 0 where
  pub indep : Independent rows
  pub word : sum rows ≡ w
  pub same : within w rows ≡ within w start

going_dropped : (w b : ℕ) (start rest : List ℕ) → Going w start (b ∷ rest) → (T (b ⊆ w) → ⊥)
    → Going w start (map (clear (lowest (b ∖ w)) b) rest)
going_dropped w b start rest g f =
    let d = lowest (b ∖ w) in
    let h = dropped_has w b f in
    -- b has the disk and w has not, so the XOR of the later rows has it
    let odd : bit w d ≡ (bit b d + bit (sum rest) d) % 2 = ap (λ (y : ℕ). bit y d) (sym g.word) ∙ bit-⊕ b (sum rest) d in
    let digit = bit_lt (sum rest) d in
    let one : bit (sum rest) d ≡ 1 = omega (arith, h.0, h.1) in
    record {
      indep = cleared-indep d b h.0 rest g.indep;
      word = sum-cleared d b rest ∙ cleared-one d b (sum rest) one ∙ g.word;
      same = sym (within_dropped w b rest f) ∙ g.same;
    }

-- the XOR of independent rows is not 0
sum-nonzero : (c : ℕ) (rest : List ℕ) → Independent (c ∷ rest) → sum (c ∷ rest) ≢ 0
sum-nonzero c rest i e = i.1 (at rest (sym (⊕_cancel c (sum rest) e)) (sum_in_span rest))

-- where there is a word other than 0, there is a row
some-row : (l : List ℕ) (v : ℕ) → InSpan l v → v ≢ 0 → suc (length l) ≢ 1
some-row [] v h f e = f h
some-row (a ∷ l) v h f e = absurd (omega arith)

-- where a row is inside w, the XOR of the later rows is too
others-inside : (b v w : ℕ) → b ⊕ v ≡ w → T (b ⊆ w) → T (v ⊆ w)
others-inside b v w e t = subst (λ (y : ℕ). T (y ⊆ w)) (ap (λ (y : ℕ). b ⊕ y) (sym e) ∙ ⊕-back b v) (⊕-⊆ b w w t (⊆-refl w))

going_kept : (w b c : ℕ) (start rest : List ℕ) → Going w start (b ∷ c ∷ rest) → T (b ⊆ w) → length (within w start) ≢ 1
going_kept w b c start rest g t e =
    let v = sum (c ∷ rest) in
    let inside = others-inside b v w g.word t in
    some-row (within w (c ∷ rest)) v ((within-spans w (c ∷ rest) v).1 (sum_in_span (c ∷ rest), inside)) (sum-nonzero c rest g.indep.0)
    (ap length (sym (within-kept w b (c ∷ rest) t) ∙ g.same) ∙ e)

going_last : (w b : ℕ) (start : List ℕ) → Going w start (b ∷ []) → length (within w start) ≡ 1
going_last w b start g =
    let t : T (b ⊆ w) = subst (λ (y : ℕ). T (b ⊆ y)) (sym (⊕-zero b) ∙ g.word) (⊆-refl b) in
    sym (ap length (sym (within-kept w b [] t ∙ ap (λ (l : List ℕ). b ∷ l) (within-nil w)) ∙ g.same))

-- ---- the loop: the rows that the bits of `left` pick, lowest bit first

-- the bits that are left after the lowest
pub next-is : (left i : ℕ) → i ≡ lowest left → i < 32 → bit_xor left (1 * 2 ^ i % 2 ^ 32) ≡ left ⊕ 2 ^ lowest left
unfolding ◌⊕◌
next-is left i e l = rw (one_shifted i l, e)

pub next_lt : (left : ℕ) → left ≢ 0 → left ⊕ 2 ^ lowest left < left
next_lt left f = lowest-less left (lowest left) (left ⊕ 2 ^ lowest left) f refl (sym (less-⊕ left (lowest left) (lowest-has left f)))

module _ (w left : ℕ) (start rows : List ℕ) (f : left ≢ 0) (h : left < 2 ^ length rows) (g : Going w start (picked rows left)) where
  first : Going w start (get_or rows (lowest left) 0 ∷ picked rows (left ⊕ 2 ^ lowest left))
  first = subst (Going w start) (picked_first rows left f h) g

  pub loop_last : left ⊕ 2 ^ lowest left ≡ 0 → true ≡ eqb (length (within w start)) 1
  loop_last e =
      sym (eq-eqb (length (within w start)) 1
      (going_last w (get_or rows (lowest left) 0) start
      (subst (λ (l : List ℕ). Going w start (get_or rows (lowest left) 0 ∷ l)) (ap (picked rows) e ∙ picked_none rows) first)))

  pub loop_kept : left ⊕ 2 ^ lowest left ≢ 0 → T (get_or rows (lowest left) 0 ⊆ w) → false ≡ eqb (length (within w start)) 1
  loop_kept n t =
      let next = left ⊕ 2 ^ lowest left in
      let l : next < 2 ^ length rows = omega (arith, next_lt left f) in
      sym (ne_eqb (length (within w start)) 1
      (going_kept w (get_or rows (lowest left) 0) (get_or rows (lowest next) 0) start (picked rows (next ⊕ 2 ^ lowest next))
      (subst (λ (l : List ℕ). Going w start (get_or rows (lowest left) 0 ∷ l)) (picked_first rows next n l) first) t))

  pub loop_dropped : (T (get_or rows (lowest left) 0 ⊆ w) → ⊥)
      → Going w start (picked (map (clear (lowest (get_or rows (lowest left) 0 ∖ w)) (get_or rows (lowest left) 0)) rows) (left ⊕ 2 ^ lowest left))
  loop_dropped n =
      let b = get_or rows (lowest left) 0 in
      subst (Going w start) (sym (picked-map (clear (lowest (b ∖ w)) b) rows (left ⊕ 2 ^ lowest left)))
      (going_dropped w b start (picked rows (left ⊕ 2 ^ lowest left)) first n)

-- the same as the code has it: row i is the lowest that is left, and disk j its lowest outside w
pub loop_more : (w left i j next : ℕ) (start rows rows' : List ℕ) → left ≢ 0 → left < 2 ^ length rows → Going w start (picked rows left)
    → i ≡ lowest left → next ≡ left ⊕ 2 ^ lowest left → j ≡ lowest (get_or rows i 0 ∖ w) → rows' ≡ map (clear j (get_or rows i 0)) rows
    → (T (get_or rows i 0 ⊆ w) → ⊥) → Going w start (picked rows' next)
loop_more w left i j next start rows rows' f h g e n d r k =
    rw (r, d, n, e) (loop_dropped w left start rows f h g (rw (← e) k))

-- where one row is left after one that is not inside w, the loop would end with it
pub loop_two : (w left : ℕ) (start rows : List ℕ) → left ≢ 0 → left < 2 ^ length rows → Going w start (picked rows left)
    → left ⊕ 2 ^ lowest left ≢ 0 → left ⊕ 2 ^ lowest left ≡ 2 ^ lowest (left ⊕ 2 ^ lowest left)
    → (T (get_or rows (lowest left) 0 ⊆ w) → ⊥) → true ≡ eqb (length (within w start)) 1
loop_two w left start rows f h g n e k =
    let next = left ⊕ 2 ^ lowest left in
    loop_last w next start (map (clear (lowest (get_or rows (lowest left) 0 ∖ w)) (get_or rows (lowest left) 0)) rows) n
    (rw length-map (omega (arith, next_lt left f))) (loop_dropped w left start rows f h g k) (ap (λ (y : ℕ). y ⊕ 2 ^ lowest next) e ∙ ⊕_self (2 ^ lowest next))

-- ---- the loop begins with the rows that x picks, and what it tells of them is so of all rows

module _ (n w x : ℕ) (bs rows : List ℕ) (r : take (length bs) rows ≡ bs) (s : Systematic n bs) (h : x < 2 ^ length bs) (e : w ≡ select bs x) where
  same-picked : picked bs x ≡ picked rows x
  same-picked = ap (λ (l : List ℕ). picked l x) (sym r) ∙ picked-take (length bs) rows x h

  pub loop_start : Going w (picked rows x) (picked rows x)
  loop_start =
      record {
        indep = subst Independent same-picked (picked-indep bs x (owned_indep n bs s));
        word = ap sum (sym same-picked) ∙ sum-picked bs x ∙ sym e;
        same = refl;
      }

  pub loop_answer : eqb (length (within w (picked rows x))) 1 ≡ eqb (length (within w bs)) 1
  loop_answer =
      ap₂ (λ (v : ℕ) (l : List ℕ). eqb (length (within v l)) 1) e (sym same-picked)
      ∙ picked-one n bs s x ∙ ap (λ (v : ℕ). eqb (length (within v bs)) 1) (sym e)
