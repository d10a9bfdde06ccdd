-- What the columns of an accepted card tell of a disk's equations: no equation is empty, and a data disk in no column has none.
-- Assumes nothing.
use mathlib.Core.Path.{◌≡◌, refl, sym, ap, ◌∙◌, subst}
use mathlib.Core.Logic.{◌≢◌}
use mathlib.Core.List.{List, [], ◌∷◌}
use Prim.Native.Nat.{ℕ, ◌+◌, ◌^◌, ◌<◌}
use native.Mathlib.Omega.{arith}
use lib.Dec.{T}
use lib.ListN.{length, get_or}
use lib.Pow.{pow-lt}
use Rattle.gf2.specs.Sets.{bit, has}
use Rattle.gf2.specs.Within.{lowest}
use Rattle.gf2.proofs.Bits.{bit-pow-same, bit-pow_other, has-not, has_out}
use Rattle.gf2.proofs.Subsets.{lowest-has, lowest_lt}
use Rattle.gf2.proofs.Sums.{over_cong, over_zero, over_none, over_power}
use Rattle.flat.specs.Cards.{Code, Card, code_of, disks, column, columns_in, column_bytes}
use Rattle.flat.specs.Erasures.{holds_bit}
use Rattle.flat.specs.Equations.{equation, equations}
use Rattle.flat.specs.Faults.{accepted, card_report}
use Rattle.flat.specs.Theorems.{NoEquationEmpty, NoColumnNoEquation}
use Rattle.flat.proofs.Cards.{column_in, none_bad, length-columns}
use Rattle.flat.proofs.Editions.{accepted-card}
use Rattle.flat.proofs.Members.{In, in_head}
use Rattle.flat.proofs.Words.{holds-parity, by-disk, word_data}
use Rattle.flat.proofs.Duality.{equation_out}
use Rattle.flat.proofs.CheckWords.{equation-least}
use Rattle.flat.proofs.EquationsListed.{equations_out}
use Rattle.flat.proofs.Verdicts.{long_slices_accepted}

module _ (C : Code) where
  -- for the data word of data disk i, a parity disk holds 1 where its column names i
  one-parity : (i j : ℕ) → i < C.k → holds_bit C (2 ^ i) (C.k + j) ≡ bit (column C j) i
  unfolding holds_bit
  one-parity i j l = holds-parity C (bit (2 ^ i)) j ∙ over_power C.k (column C j) i l

  -- a disk with an empty equation holds 0 for every data word
  empty_zero : (d x : ℕ) → x < 2 ^ C.k → T (equation C d 0) → holds_bit C x d ≡ 0
  empty_zero d x l t = sym ((equation_out C d 0 t).1 x l) ∙ over_none (disks C) (holds_bit C x)

  no_empty : ((j : ℕ) → j < C.m → (column C j ≢ 0) × (column C j < 2 ^ C.k)) → (d : ℕ) → d < disks C → T (equation C d 0) → ⊥
  unfolding disks
  no_empty cs = by-disk C (λ d. d < C.k + C.m → T (equation C d 0) → ⊥) (λ i l h t. one i i l t (word_data C (2 ^ i) i l ∙ bit-pow-same i)) parity
    where
      one : (i d : ℕ) → i < C.k → T (equation C d 0) → holds_bit C (2 ^ i) d ≡ 1 → ⊥
      one i d l t e = let z : ◌≡◌ {A = ℕ} 1 0 = sym e ∙ empty_zero d (2 ^ i) (pow-lt l) t in omega arith

      parity : (j : ℕ) → C.k + j < C.k + C.m → T (equation C (C.k + j) 0) → ⊥
      parity j h t =
          let c = cs j (omega arith) in
          let i = lowest (column C j) in
          let l : i < C.k = lowest_lt C.k (column C j) c.0 c.1 in
          one i (C.k + j) l t (one-parity i j l ∙ has_out (column C j) i (lowest-has (column C j) c.0))

  -- for the data word of a disk in no column, every other disk holds 0
  untold : (d : ℕ) → d < C.k → ((j : ℕ) → j < C.m → T (has (column C j) d) → ⊥) → (E : ℕ) → T (equation C d E) → ⊥
  unfolding disks
  untold d l f E t =
      let q = equation_out C d E t in
      let z : ◌≡◌ {A = ℕ} 1 0 =
      sym (q.1 (2 ^ d) (pow-lt l) ∙ word_data C (2 ^ d) d l ∙ bit-pow-same d)
      ∙ over_cong (disks C) E (holds_bit C (2 ^ d)) (λ i. 0) (λ i h m. other i h (λ e. q.0 (subst (λ (x : ℕ). T (has E x)) e m)))
      ∙ over_zero (disks C) E in
      omega arith
    where
      other : (i : ℕ) → i < C.k + C.m → i ≢ d → holds_bit C (2 ^ d) i ≡ 0
      other =
          by-disk C (λ i. i < C.k + C.m → i ≢ d → holds_bit C (2 ^ d) i ≡ 0) (λ i b h g. word_data C (2 ^ d) i b ∙ bit-pow_other d i g)
          (λ j h g. one-parity d j l ∙ has-not (column C j) d (f j (omega arith)))

-- the columns of an accepted card
columns_ok : (card : Card) (k m : ℕ) → card_report card ≡ accepted (k ∷ m ∷ [])
    → (j : ℕ) → j < (code_of card).m → (column (code_of card) j ≢ 0) × (column (code_of card) j < 2 ^ (code_of card).k)
unfolding column
columns_ok card k m ok =
    let a = accepted-card card k m ok in
    let cs = columns_in m (column_bytes card) in
    let n : length cs ≡ m = length-columns m (column_bytes card) in
    subst (λ (C : Code). (j : ℕ) → j < C.m → (get_or C.columns j 0 ≢ 0) × (get_or C.columns j 0 < 2 ^ C.k)) (sym a.is)
    (λ j l. let c = column_in k (get_or cs j 0) (none_bad k cs (omega (arith, a.sound.first)) j (omega arith)) in
    (λ e. omega (arith, c.0), c.1))

pub no-equation_empty : NoEquationEmpty
no-equation_empty card d E k m ok l t e =
    no_empty (code_of card) (columns_ok card k m ok) d l (subst (λ (x : ℕ). T (equation (code_of card) d x)) e t)

-- a list without a member is empty
empty : (xs : List ℕ) → ((x : ℕ) → In x xs → ⊥) → xs ≡ []
empty [] f = refl
empty (x ∷ xs) f = absurd (f x (in_head xs refl))

pub no-column-no-equation : NoColumnNoEquation
unfolding disks
no-column-no-equation card d k m ok l f =
    let C = code_of card in
    let a = accepted-card card k m ok in
    let ek : C.k ≡ k = ap (λ (D : Code). D.k) a.is in
    let em : C.m ≡ m = ap (λ (D : Code). D.m) a.is in
    let h : d < C.k = omega arith in
    let b : d < disks C = omega arith in
    let none : (E : ℕ) → T (equation C d E) → ⊥ = untold C d h (λ j i. f j (omega arith)) in
    let e : equations C d ≡ [] = empty (equations C d) (λ E t. none E ((equation-least C d E).0 (equations_out C d E t).1).holds) in
    let z : length (equations C d) ≡ 0 = ap length e in
    (none, e, λ n. (long_slices_accepted card n d k m ok).1 b (omega arith) ∙ ap (λ (c : ℕ). accepted (c ∷ [])) z)
