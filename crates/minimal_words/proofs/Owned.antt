-- Rows of which each has a disk of its own: they are independent, and a word inside the word that x selects is one of the rows that x picks.
-- Assumes nothing.
use mathlib.Core.Path.{◌≡◌, sym, ap, ◌∙◌, subst}
use mathlib.Core.Logic.{◌⊎◌, inl, inr, ◌↔◌}
use mathlib.Core.List.{List}
use Prim.Native.Nat.{ℕ, ◌<◌}
use native.Mathlib.Nat.{lt_irrefl}
use native.Mathlib.Omega.{arith}
use lib.Dec.{T, eqb}
use lib.ListN.{length, get_or}
use Rattle.std.specs.Prelude.{if◌then◌else◌}
use Rattle.gf2.specs.Sets.{bit, ◌⊆◌}
use Rattle.gf2.specs.Span.{InSpan, Independent, select, Minimal}
use Rattle.gf2.specs.Within.{within}
use Rattle.gf2.proofs.Tests.{dec, T_true, T_false, T-ext, eqb_in, eqb_out}
use Rattle.gf2.proofs.Bits.{has_in, has_out}
use Rattle.gf2.proofs.Subsets.{⊆_out}
use Rattle.gf2.proofs.Spans.{at}
use Rattle.gf2.proofs.Sums.{over-bit, over_cong, over-one, select_in, in_select}
use Rattle.gf2.proofs.OneRow.{one-row}
use Rattle.flat.proofs.Lists.{entries}
use Rattle.flat.proofs.Rows.{pivots_indep}
use Rattle.minimal_words.specs.Systematic.{Systematic}
use Rattle.minimal_words.proofs.Picked.{picked, picked_in, picked-indep, fewer_in, select-picked}

module _ (n : ℕ) (bs : List ℕ) (s : Systematic n bs) where
  -- the disk of row i is in the word that y selects where bit i of y is 1
  own-bit : (y i : ℕ) → i < length bs → bit (select bs y) (s.own i) ≡ bit y i
  unfolding select
  own-bit y i l =
      over-bit (length bs) y (λ j. get_or bs j 0) (s.own i)
      ∙ over_cong (length bs) y (λ j. bit (get_or bs j 0) (s.own i)) (λ j. if eqb i j then 1 else 0) (λ j m t. row j m (dec (eqb i j)))
      ∙ over-one (length bs) y i l
    where
      row : (j : ℕ) → j < length bs → T (eqb i j) ⊎ (T (eqb i j) → ⊥) → bit (get_or bs j 0) (s.own i) ≡ (if eqb i j then 1 else 0)
      row j m (inl t) = rw (T_true {b = eqb i j} t) (ap (λ (k : ℕ). bit (get_or bs k 0) (s.own i)) (sym (eqb_out i j t)) ∙ s.has_own i l)
      row j m (inr f) = rw (T_false {b = eqb i j} f) (s.lacks_other i j l m (λ e. f (eqb_in e)))

  pub owned_indep : Independent bs
  owned_indep =
      subst Independent (entries bs)
      (pivots_indep (length bs) (λ i. get_or bs i 0) s.own s.has_own
      (λ i j l m. s.lacks_other i j (omega arith) m (λ e. lt_irrefl i (subst (λ (k : ℕ). i < k) (sym e) l))))

  inside_in : (x v : ℕ) → InSpan bs v → T (v ⊆ select bs x) → InSpan (picked bs x) v
  inside_in x v h t =
      let r = in_select bs v h in
      let y = r.0 in
      at (picked bs x) r.2
      (fewer_in bs x y
      (λ i l m. has_in x i
      (sym (own-bit x i l)
      ∙ has_out (select bs x) (s.own i)
      (⊆_out v (select bs x) t (s.own i)
      (has_in v (s.own i) (ap (λ (u : ℕ). bit u (s.own i)) (sym r.2) ∙ own-bit y i l ∙ has_out y i m))))))

  -- minimal among the words of all rows, and among those of the rows picked
  picked-minimal : (x : ℕ) → Minimal bs (select bs x) ↔ Minimal (picked bs x) (select bs x)
  picked-minimal x = (
    λ m. record { word = select-picked bs x; nonzero = m.nonzero; alone = λ v h. m.alone v (picked_in bs x v h) },
    λ m. record { word = select_in bs x; nonzero = m.nonzero; alone = λ v h f t. m.alone v (inside_in x v h t) f t },
  )

  -- one row of all is left inside the word where one of the rows picked is
  pub picked-one : (x : ℕ) → eqb (length (within (select bs x) (picked bs x))) 1 ≡ eqb (length (within (select bs x) bs)) 1
  picked-one x =
      let w = select bs x in
      let all = one-row bs w owned_indep (select_in bs x) in
      let few = one-row (picked bs x) w (picked-indep bs x owned_indep) (select-picked bs x) in
      T-ext
      (λ t. eqb_in (all.0 ((picked-minimal x).1 (few.1 (eqb_out (length (within w (picked bs x))) 1 t)))))
      (λ t. eqb_in (few.0 ((picked-minimal x).0 (all.1 (eqb_out (length (within w bs)) 1 t)))))
