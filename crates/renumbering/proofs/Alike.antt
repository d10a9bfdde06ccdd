-- What alike means: a renumbering of the parity disks, or counts of columns that are equal.
-- Assumes nothing.
use mathlib.Core.Path.{◌≡◌, refl, sym, ap, ◌∙◌}
use mathlib.Core.Bool.{◌&&◌}
use Prim.Native.Nat.{ℕ, ◌<◌}
use lib.Dec.{T, eqb}
use Rattle.gf2.proofs.Tests.{T-ext, and_in, and_out, eqb_in, eqb_out}
use Rattle.flat.specs.Lists.{count}
use Rattle.flat.specs.Cards.{Code, column}
use Rattle.flat.specs.Alike.{occurrences, as_often, rearranged, alike}
use Rattle.flat.proofs.Quantifiers.{every_in, every_out}
use Rattle.renumbering.specs.Theorems.{AlikeRenumbers, AlikeOccurrences, OneSide, AlikeEquivalence}
use Rattle.renumbering.proofs.Matching.{Carries, carried-often, often-carried}

-- each column as often, and every number as often
abbrev Often : Code → Code → Type 0
Often A B = (c : ℕ) → occurrences A c ≡ occurrences B c

often_in : (A B : Code) → Often A B → T (as_often A B)
unfolding as_often
often_in A B h =
    every_in A.m (λ j. eqb (occurrences A (column A j)) (occurrences B (column A j))) (λ j l. eqb_in (h (column A j)))

often_out : (A B : Code) → T (as_often A B) → (j : ℕ) → j < A.m → occurrences A (column A j) ≡ occurrences B (column A j)
unfolding as_often
often_out A B t j l =
    eqb_out (occurrences A (column A j)) (occurrences B (column A j))
    (every_out A.m (λ i. eqb (occurrences A (column A i)) (occurrences B (column A i))) t j l)

-- ---- the columns as tables of numbers

module _ (A B : Code) (e : A.m ≡ B.m) where
  table : (c : ℕ) → occurrences B c ≡ count A.m (λ j. eqb (column B j) c)
  unfolding occurrences
  table c = ap (λ (n : ℕ). count n (λ j. eqb (column B j) c)) (sym e)

  one_side : T (as_often A B) → (π : ℕ → ℕ) × Carries A.m (column A) (column B) π
  unfolding occurrences
  one_side t = often-carried A.m (column A) (column B) (λ j l. often_out A B t j l ∙ table (column A j))

  carried : (π : ℕ → ℕ) → Carries A.m (column A) (column B) π → Often A B
  unfolding occurrences
  carried π h c = carried-often A.m (column A) (column B) π h c ∙ sym (table c)

-- ---- the statements

rearranged_in : (A B : Code) → Often A B → T (rearranged A B)
unfolding rearranged
rearranged_in A B h = and_in (as_often A B) (as_often B A) (often_in A B h) (often_in B A (λ c. sym (h c)))

pub one_side_enough : OneSide
unfolding rearranged
one_side_enough A B e =
    T-ext (λ t. let (π, h) = one_side A B e t in rearranged_in A B (carried A B e π h)) (λ t. (and_out (as_often A B) (as_often B A) t).0)

-- the three parts of the test
alike_in : (A B : Code) → A.k ≡ B.k → A.m ≡ B.m → T (rearranged A B) → T (alike A B)
unfolding alike
alike_in A B p q t =
    and_in (eqb A.k B.k && eqb A.m B.m) (rearranged A B)
    (and_in (eqb A.k B.k) (eqb A.m B.m) (eqb_in p) (eqb_in q)) t

alike_out : (A B : Code) → T (alike A B) → (A.k ≡ B.k) × (A.m ≡ B.m) × T (as_often A B)
unfolding alike rearranged
alike_out A B t =
    let a = and_out (eqb A.k B.k && eqb A.m B.m) (rearranged A B) t in
    let b = and_out (eqb A.k B.k) (eqb A.m B.m) a.0 in
    (eqb_out A.k B.k b.0, eqb_out A.m B.m b.1, (and_out (as_often A B) (as_often B A) a.1).0)

pub alike_renumbers : AlikeRenumbers
alike_renumbers A B = (
  λ t. let (p, q, s) = alike_out A B t in
      let (π, h) = one_side A B q s in
      (π, record { same_k = p; same_m = q; permutes = h.permutes; carries = h.carried }),
  λ (π, r). alike_in A B r.same_k r.same_m
      (rearranged_in A B (carried A B r.same_m π (record { permutes = r.permutes; carried = r.carries }))),
)

pub alike-occurrences : AlikeOccurrences
alike-occurrences A B = (
  λ t. let (p, q, s) = alike_out A B t in
      let (π, h) = one_side A B q s in
      (p, q, carried A B q π h),
  λ (p, q, h). alike_in A B p q (rearranged_in A B h),
)

pub alike_equivalence : AlikeEquivalence
alike_equivalence = record {
  reflexive = λ A. (alike-occurrences A A).1 (refl, refl, λ c. refl);
  symmetric = λ A B t. let (p, q, h) = (alike-occurrences A B).0 t in (alike-occurrences B A).1 (sym p, sym q, λ c. sym (h c));
  transitive = λ A B C t u. let (p, q, h) = (alike-occurrences A B).0 t in
      let (v, w, g) = (alike-occurrences B C).0 u in
      (alike-occurrences A C).1 (p ∙ v, q ∙ w, λ c. h c ∙ g c);
}
