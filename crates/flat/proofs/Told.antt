-- The equation that `within` leaves of a determined lost disk, and that it leaves none of an undetermined one.
-- Assumes nothing.
use mathlib.Core.Path.{◌≡◌, refl, sym, ap, ◌∙◌, subst}
use mathlib.Core.Bool.{Bool, true, false}
use mathlib.Core.Logic.{◌⊎◌, inl, inr, ⊎_elim}
use mathlib.Core.List.{List, [], ◌∷◌}
use Prim.Native.Nat.{ℕ, ◌^◌, ◌<◌}
use native.Mathlib.Nat.{lt_of_le_of_lt}
use lib.Dec.{T}
use Rattle.std.specs.Prelude.{if◌then◌else◌}
use Rattle.gf2.specs.Sets.{bit, has, ◌⊕◌, ◌⊆◌, ◌∖◌, over}
use Rattle.gf2.specs.Span.{InSpan}
use Rattle.gf2.specs.Within.{within}
use Rattle.gf2.proofs.Bits.{bit-of-zero, not-has}
use Rattle.gf2.proofs.Xor.{⊕_comm}
use Rattle.gf2.proofs.Subsets.{⊕-left, ⊆_out, ⊆_le, ⊆-none, zero-⊆, less-⊆, plus-has, plus-back, plus-⊆}
use Rattle.gf2.proofs.Spans.{first_in}
use Rattle.gf2.proofs.Elimination.{within-spans}
use Rattle.flat.specs.Cards.{Code, disks}
use Rattle.flat.specs.Strips.{holds}
use Rattle.flat.specs.Erasures.{survivors, undetermined_set, determined_set}
use Rattle.flat.specs.Equations.{equation}
use Rattle.flat.specs.Spans.{checks}
use Rattle.flat.specs.Repairs.{holder, equation_in, equation_among}
use Rattle.flat.specs.Rebuilt.{EquationLeft, NoEquationLeft, EachEquationLeft}
use Rattle.flat.proofs.Duality.{Told, survivor_out, survivors_lt, told-or-held, told-not-held, disk-below}
use Rattle.flat.proofs.Undetermined.{held-set, set-held, undetermined-lost, determined_in, determined_out, none-undetermined}
use Rattle.flat.proofs.CheckWords.{equation-word, word-equation, equation-sum, no_disk}

-- where some word of a span holds disk d, so does the row that `holder` finds
pub holder-has : (d : ℕ) (bs : List ℕ) (w : ℕ) → InSpan bs w → T (has w d) → T (has (holder d bs) d) × InSpan bs (holder d bs)
unfolding holder
holder-has d [] w s m = absurd (not-has w d (subst (λ (x : ℕ). bit x d ≡ 0) (sym s) (bit-of-zero d)) m)
holder-has d (b ∷ bs) w s m = go (has b d) (λ t. t) (λ t. t) s (holder-has d bs)
  where
    go : (t : Bool) → (T t → T (has b d)) → (T (has b d) → T t) → InSpan bs w ⊎ InSpan bs (b ⊕ w)
        → ((v : ℕ) → InSpan bs v → T (has v d) → T (has (holder d bs) d) × InSpan bs (holder d bs))
        → T (has (if t then b else holder d bs) d) × InSpan (b ∷ bs) (if t then b else holder d bs)
    go true f g s rest = (f tt, first_in b bs)
    go false f g (inl s) rest = let r = rest w s m in (r.0, inl r.1)
    go false f g (inr s) rest =
        let r = rest (b ⊕ w) s (subst (λ (x : ℕ). T (has x d)) (⊕_comm w b) (⊕-left w b d m g)) in (r.0, inl r.1)

-- it finds a row that holds the disk, or none
pub holder_or : (d : ℕ) (bs : List ℕ) → (T (has (holder d bs) d) × InSpan bs (holder d bs)) ⊎ (holder d bs ≡ 0)
unfolding holder
holder_or d [] = inr refl
holder_or d (b ∷ bs) = go (has b d) (λ t. t) (holder_or d bs)
  where
    go : (t : Bool) → (T t → T (has b d)) → (T (has (holder d bs) d) × InSpan bs (holder d bs)) ⊎ (holder d bs ≡ 0)
        → (T (has (if t then b else holder d bs) d) × InSpan (b ∷ bs) (if t then b else holder d bs)) ⊎ ((if t then b else holder d bs) ≡ 0)
    go true f rest = inl (f tt, first_in b bs)
    go false f (inl (m, s)) = inl (m, inl s)
    go false f (inr e) = inr e

module _ (C : Code) (S d : ℕ) (l : d < disks C) (s : T (has S d)) where
  -- the check words of survivors and d
  abbrev pub words : List ℕ
  words = within (survivors C S ⊕ 2 ^ d) (checks C)

  lost : T (has (survivors C S) d) → ⊥
  lost t = (survivor_out C S d t).1 s

  -- such a word that holds d, less d, is an equation among the survivors, and with d each equation is such a word
  pub word-told : (w : ℕ) → T (has w d) × InSpan words w → T (w ∖ 2 ^ d ⊆ survivors C S) × T (equation C d (w ∖ 2 ^ d))
  word-told w (m, t) =
      let p = (within-spans (survivors C S ⊕ 2 ^ d) (checks C) w).0 t in (
        subst (λ (x : ℕ). T (w ∖ 2 ^ d ⊆ x)) (plus-back (survivors C S) d lost) (less-⊆ w (survivors C S ⊕ 2 ^ d) (2 ^ d) p.1),
        word-equation C d l w p.0 m,
      )

  pub told-word : (E : ℕ) → T (E ⊆ survivors C S) → T (equation C d E) → InSpan words (E ⊕ 2 ^ d) × T (has (E ⊕ 2 ^ d) d)
  told-word E t q =
      let span = equation-word C d l E (lt_of_le_of_lt (⊆_le E (survivors C S) t) (survivors_lt C S)) q in (
        (within-spans (survivors C S ⊕ 2 ^ d) (checks C) (E ⊕ 2 ^ d)).1 (span, plus-⊆ E (survivors C S) d lost t),
        plus-has E d (no_disk C d l E q),
      )

  -- so where d has an equation, `within` leaves one, and else none
  left-told : Told C S d → T (equation_among C S d ⊆ survivors C S) × T (equation C d (equation_among C S d))
  unfolding equation_among equation_in
  left-told (E, t, q) = let r = told-word E t q in word-told (holder d words) (holder-has d words (E ⊕ 2 ^ d) r.0 r.1)

  left-none : (Told C S d → ⊥) → equation_among C S d ≡ 0
  unfolding equation_among equation_in
  left-none f =
      ⊎_elim (λ r. let e = word-told (holder d words) r in absurd (f (holder d words ∖ 2 ^ d, e.0, e.1)))
      (λ e. ap (λ (w : ℕ). w ∖ 2 ^ d) e ∙ ⊆-none 0 (2 ^ d) (zero-⊆ (2 ^ d))) (holder_or d words)

pub equation-left : EquationLeft
equation-left C S d l t =
    let k = determined_out C S d t in
    ⊎_elim (left-told C S d l k.0) (λ h. absurd (k.1 (held-set C S d h))) (told-or-held C S d l k.0)

pub no-equation-left : NoEquationLeft
no-equation-left C S d u =
    let h = set-held C S d u in
    let l = disk-below C h.0 d h.3 in
    left-none C S d l (⊆_out (undetermined_set C S) S (undetermined-lost C S) d u) (λ t. told-not-held C S d l t h)

-- a set of survivors is a set of the code's disks
pub among_lt : (C : Code) (S E : ℕ) → T (E ⊆ survivors C S) → E < 2 ^ disks C
among_lt C S E t = lt_of_le_of_lt (⊆_le E (survivors C S) t) (survivors_lt C S)

-- so what the disk holds is the XOR of what survivors hold
pub left-sum : (C : Code) (S d : ℕ) → d < disks C → T (has (determined_set C S) d) → (v : ℕ → ℕ)
    → over (disks C) (equation_among C S d) (holds C v) ≡ holds C v d
left-sum C S d l t v =
    let e = equation-left C S d l t in equation-sum C d l (equation_among C S d) (among_lt C S (equation_among C S d) e.0) e.1 v

-- where the lost set is not fatal, each lost disk is determined
pub each-equation-left : EachEquationLeft
each-equation-left C S d f l s = equation-left C S d l (determined_in C S d s (none-undetermined C S f d))
