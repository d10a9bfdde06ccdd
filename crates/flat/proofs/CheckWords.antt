-- Recovery equations of a disk as check words: with its disk an equation is a check word that holds it, and a minimal equation a
-- minimal one.
-- Assumes nothing.
use mathlib.Core.Path.{◌≡◌, sym, ap, ◌∙◌, subst}
use mathlib.Core.Logic.{◌↔◌}
use Prim.Native.Nat.{ℕ, ◌^◌, ◌<◌}
use native.Mathlib.Nat.{lt_of_le_of_lt}
use lib.Dec.{T}
use lib.Pow.{pow-lt}
use Rattle.gf2.specs.Sets.{has, ◌⊕◌, ◌∖◌, ◌⊆◌, over}
use Rattle.gf2.specs.Span.{InSpan, Minimal}
use Rattle.gf2.proofs.Bits.{bit-of-zero, not-has}
use Rattle.gf2.proofs.Xor.{⊕_self, ⊕_cancel, ⊕_lt}
use Rattle.gf2.proofs.Subsets.{⊆_in, ∖_out, ⊆_le, power_in, less-back, less-⊆, plus-has, plus-back, plus-⊆}
use Rattle.gf2.proofs.OneRow.{smallest_holder}
use Rattle.gf2.proofs.Sums.{over-⊕, over-disk}
use Rattle.flat.specs.Cards.{Code, disks}
use Rattle.flat.specs.Strips.{holds}
use Rattle.flat.specs.Erasures.{holds_bit}
use Rattle.flat.specs.Equations.{equation, minimal_equation}
use Rattle.flat.specs.Spans.{checks}
use Rattle.flat.proofs.Rows.{word_sum, checks_span}
use Rattle.flat.proofs.Duality.{equation_in_lem, equation_out}
use Rattle.flat.proofs.Least.{Least, least_in, least_out}

pub equation-least : (C : Code) (d E : ℕ) → T (minimal_equation C d E) ↔ Least (disks C) (equation C d) E
unfolding minimal_equation
equation-least C d E = (least_out (disks C) (equation C d) E, least_in (disks C) (equation C d) E)

module _ (C : Code) (d : ℕ) (l : d < disks C) where
  -- ---- an equation and its disk

  pub with_sum : (E : ℕ) (f : ℕ → ℕ) → over (disks C) (E ⊕ 2 ^ d) f ≡ over (disks C) E f ⊕ f d
  with_sum E f = over-⊕ (disks C) E (2 ^ d) f ∙ ap (λ (y : ℕ). over (disks C) E f ⊕ y) (over-disk (disks C) d f l)

  pub equation-word : (E : ℕ) → E < 2 ^ disks C → T (equation C d E) → InSpan (checks C) (E ⊕ 2 ^ d)
  equation-word E h t =
      let e = equation_out C d E t in
      (checks_span C (E ⊕ 2 ^ d)).1 (
        ⊕_lt (disks C) E (2 ^ d) h (pow-lt l),
        λ x m. with_sum E (holds_bit C x) ∙ ap (λ (y : ℕ). y ⊕ holds_bit C x d) (e.1 x m) ∙ ⊕_self (holds_bit C x d),
      )

  pub word-equation : (w : ℕ) → InSpan (checks C) w → T (has w d) → T (equation C d (w ∖ 2 ^ d))
  word-equation w s m =
      let z = (checks_span C w).0 s in
      equation_in_lem C d (w ∖ 2 ^ d) (
        λ t. (∖_out w (2 ^ d) d t).1 (power_in d),
        λ x h. ⊕_cancel (over (disks C) (w ∖ 2 ^ d) (holds_bit C x)) (holds_bit C x d)
            (sym (with_sum (w ∖ 2 ^ d) (holds_bit C x)) ∙ ap (λ (y : ℕ). over (disks C) y (holds_bit C x)) (less-back w d m) ∙ z.1 x h),
      )

  -- where a set with d XORs to 0, the set without d XORs to what d has
  pub told-sum : (E : ℕ) (f : ℕ → ℕ) → over (disks C) (E ⊕ 2 ^ d) f ≡ 0 → over (disks C) E f ≡ f d
  told-sum E f e = ⊕_cancel (over (disks C) E f) (f d) (sym (with_sum E f) ∙ e)

  -- of bytes too, an equation tells what its disk holds
  pub equation-sum : (E : ℕ) → E < 2 ^ disks C → T (equation C d E) → (v : ℕ → ℕ) → over (disks C) E (holds C v) ≡ holds C v d
  equation-sum E h t v = told-sum E (holds C v) (word_sum C (E ⊕ 2 ^ d) (equation-word E h t) v)

  -- a set without d, of the code's disks
  pub less_lt : (w : ℕ) → InSpan (checks C) w → w ∖ 2 ^ d < 2 ^ disks C
  less_lt w s = lt_of_le_of_lt (⊆_le (w ∖ 2 ^ d) w (⊆_in (w ∖ 2 ^ d) w (λ i t. (∖_out w (2 ^ d) i t).0))) ((checks_span C w).0 s).0

  pub no_disk : (E : ℕ) → T (equation C d E) → T (has E d) → ⊥
  no_disk E t = (equation_out C d E t).0

  -- ---- minimal equations are minimal words

  pub minimal-word : (E : ℕ) → E < 2 ^ disks C → T (minimal_equation C d E) → Minimal (checks C) (E ⊕ 2 ^ d)
  minimal-word E h t =
      smallest_holder (checks C) d w (equation-word E h least.holds) (plus-has E d own)
      (λ v s m u. sym (less-back v d m)
      ∙ ap (λ (x : ℕ). x ⊕ 2 ^ d)
      (least.alone (v ∖ 2 ^ d) (less_lt v s) (subst (λ (x : ℕ). T (v ∖ 2 ^ d ⊆ x)) (plus-back E d own) (less-⊆ v w (2 ^ d) u)) (word-equation v s m)))
    where
      w : ℕ
      w = E ⊕ 2 ^ d

      least : Least (disks C) (equation C d) E
      least = (equation-least C d E).0 t

      own : T (has E d) → ⊥
      own = no_disk E least.holds

  pub word-minimal : (w : ℕ) → Minimal (checks C) w → T (has w d) → T (minimal_equation C d (w ∖ 2 ^ d))
  word-minimal w m h = (equation-least C d (w ∖ 2 ^ d)).1 (record { holds = word-equation w m.word h; alone = alone })
    where
      alone : (F : ℕ) → F < 2 ^ disks C → T (F ⊆ w ∖ 2 ^ d) → T (equation C d F) → F ≡ w ∖ 2 ^ d
      alone F l t q =
          let g = no_disk F q in
          let p = plus-has F d g in
          let e : F ⊕ 2 ^ d ≡ w =
          m.alone (F ⊕ 2 ^ d) (equation-word F l q) (λ z. not-has 0 d (bit-of-zero d) (subst (λ (x : ℕ). T (has x d)) z p))
          (subst (λ (x : ℕ). T (F ⊕ 2 ^ d ⊆ x)) (less-back w d h) (plus-⊆ F (w ∖ 2 ^ d) d (λ u. (∖_out w (2 ^ d) d u).1 (power_in d)) t)) in
          sym (plus-back F d g) ∙ ap (λ (x : ℕ). x ∖ 2 ^ d) e
