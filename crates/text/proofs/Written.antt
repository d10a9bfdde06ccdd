-- A number's digits, written from the last to the first into a slice of its length.
-- Assumes nothing.
use mathlib.Core.Path.{◌≡◌, refl, sym, ap, subst, ◌∙◌}
use mathlib.Core.Logic.{⊎_elim}
use mathlib.Core.List.{List, [], ◌∷◌, ◌++◌, append-nil}
use Prim.Native.Nat.{ℕ, zero, suc, ◌+◌, ◌-◌, ◌/◌, ◌%◌, ◌<◌}
use native.Mathlib.Nat.{add-zero}
use native.Mathlib.Omega.{arith}
use lib.ListN.{length, set, drop, length-set, drop_of_length-le}
use lib.Seq.{sets, sets-eq, set_comm}
use Rattle.gf2.proofs.Tests.{below_or}
use Rattle.text.specs.Decimal.{decimal}
use Rattle.text.proofs.Digits.{decimal-short, decimal-long, length-short, length-long, length_some}

-- a byte that is put first stands after bytes that are put later
sets_last : (a old : List ℕ) (at d : ℕ) → sets (set old (at + length a) d) at a ≡ sets old at (a ++ (d ∷ []))
sets_last [] old at d = ap (λ (i : ℕ). set old i d) (add-zero at)
sets_last (x ∷ a) old at d =
    let e : at + suc (length a) ≡ suc at + length a = omega arith in
    ap (λ (l : List ℕ). sets l (suc at) a) (set_comm old (at + suc (length a)) at d x (λ e. omega arith))
    ∙ ap (λ (i : ℕ). sets (set (set old at x) i d) (suc at) a) e
    ∙ sets_last a (set old at x) (suc at) d

-- what goes to the places that are left, of a number whose digits they are: nothing, where none is left
abbrev pub rest_of : ℕ → ℕ → List ℕ
rest_of zero rest = []
rest_of (suc left) rest = decimal rest

-- the digits of what is left of n, put into the places that are left at the front of s, complete n
pub record Completed (n rest left : ℕ) (s : List ℕ) : Type 0 where
  pub whole : sets s 0 (rest_of left rest) ≡ decimal n
  pub fill : length (rest_of left rest) ≡ left
  pub long : length s ≡ length (decimal n)

none-yet : (n left : ℕ) (s : List ℕ) → length s ≡ length (decimal n) → left ≡ length s → Completed n n left s
none-yet n zero s l e = absurd (omega (arith, length_some n))
none-yet n (suc left) s l e =
    let all : drop (0 + length (decimal n)) s ≡ [] = drop_of_length-le s (omega arith) in
    record {
      whole = sets-eq (decimal n) s 0 (omega arith) ∙ ap (λ (xs : List ℕ). decimal n ++ xs) all ∙ append-nil (decimal n);
      fill = omega arith;
      long = l;
    }

pub completed_none : (n : ℕ) (s : List ℕ) → length s ≡ length (decimal n) → Completed n n (length s) s
completed_none n s l = none-yet n (length s) s l refl

-- the last place gets the last digit
next-digit : (n rest left : ℕ) (s : List ℕ) → Completed n rest (suc left) s → sets (set s left (0x30 + rest % 10)) 0 (rest_of left (rest / 10)) ≡ decimal n
next-digit n rest zero s c =
    let one : rest < 10 = ⊎_elim (λ h. h) (λ h. absurd (omega (arith, c.fill, length-long rest h, length_some (rest / 10)))) (below_or rest 10) in
    let digit : rest % 10 ≡ rest = omega arith in
    rw digit (ap (sets s 0) (sym (decimal-short rest one)) ∙ c.whole)
next-digit n rest (suc left) s c =
    let large : 9 < rest = ⊎_elim (λ h. absurd (omega (arith, c.fill, length-short rest h))) (λ h. h) (below_or rest 10) in
    let at : suc left ≡ 0 + length (decimal (rest / 10)) = omega (arith, c.fill, length-long rest large) in
    ap (λ (i : ℕ). sets (set s i (0x30 + rest % 10)) 0 (decimal (rest / 10))) at
    ∙ sets_last (decimal (rest / 10)) s 0 (0x30 + rest % 10)
    ∙ ap (sets s 0) (sym (decimal-long rest large)) ∙ c.whole

left-digits : (n rest left : ℕ) (s : List ℕ) → Completed n rest (suc left) s → length (rest_of left (rest / 10)) ≡ left
left-digits n rest zero s c = refl
left-digits n rest (suc left) s c =
    let large : 9 < rest = ⊎_elim (λ h. absurd (omega (arith, c.fill, length-short rest h))) (λ h. h) (below_or rest 10) in
    omega (arith, c.fill, length-long rest large)

more : (n rest left : ℕ) (s : List ℕ) → 0 < left → Completed n rest left s → Completed n (rest / 10) (left - 1) (set s (left - 1) (0x30 + rest % 10))
more n rest zero s h c = absurd (omega arith)
more n rest (suc left) s h c =
    let e : suc left - 1 ≡ left = omega arith in
    rw e record {
      whole = next-digit n rest left s c;
      fill = left-digits n rest left s c;
      long = length-set s left (0x30 + rest % 10) ∙ c.long;
    }

pub completed_more : {n rest left : ℕ} {s : List ℕ} → Completed n rest left s → 0 < left → Completed n (rest / 10) (left - 1) (set s (left - 1) (0x30 + rest % 10))
completed_more {n} {rest} {left} {s} c h = more n rest left s h c

pub completed_all : {n rest left : ℕ} {s : List ℕ} → Completed n rest left s → left ≡ 0 → s ≡ decimal n
completed_all {n} {rest} {left} {s} c e = (subst (λ (i : ℕ). Completed n rest i s) e c).whole
