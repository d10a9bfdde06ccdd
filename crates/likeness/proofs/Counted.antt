-- The balance of a column tells whether it stands as often in both codes, and that of each column whether they are a rearrangement of each other.
-- Assumes nothing.
use mathlib.Core.Path.{◌≡◌, refl, sym, ap, ◌∙◌, subst}
use mathlib.Core.Bool.{Bool, true, false, ◌&&◌, and-true, and_assoc}
use Prim.Native.Nat.{ℕ, zero, suc, ◌+◌, ◌-◌, ◌≤◌, ◌<◌}
use native.Mathlib.Nat.{add-zero}
use native.Mathlib.Numerals.{add-one}
use native.Mathlib.Omega.{arith}
use lib.Dec.{eqb}
use Rattle.std.specs.List.{list_all, range_with_len}
use Rattle.gf2.proofs.Tests.{T-ext, eqb_in, eqb_out}
use Rattle.flat.specs.Lists.{every, count}
use Rattle.flat.specs.Cards.{Code, column}
use Rattle.flat.specs.Alike.{occurrences, as_often, rearranged}
use Rattle.std.specs.Prelude.{if◌then◌else◌}
use Rattle.std.specs.Int.{from_bool}
use Rattle.flat.proofs.Quantifiers.{every_cong}
use Rattle.flat.proofs.Counts.{count_le}
use Rattle.renumbering.proofs.Alike.{one_side_enough}

-- how many of the first i columns are c
unfoldable pub standing : Code → ℕ → ℕ → ℕ
unfolding count column
standing C i c = count i (λ j. eqb (column C j) c)

-- the balance after i columns of both: up for each of the one's columns that is c, and down for each of the other's
abbrev pub Balance : Code → Code → ℕ → ℕ → ℕ → Type 0
Balance own other c i balance = balance + standing other i c ≡ 16 + standing own i c

pub balance-none : (own other : Code) (c : ℕ) → Balance own other c 0 16
unfolding standing count
balance-none own other c = refl

one : (b : Bool) → from_bool b ≡ (if b then 1 else 0)
one true = refl
one false = refl

one_more : (C : Code) (c i x : ℕ) → x ≡ column C i → standing C (i + 1) c ≡ standing C i c + from_bool (eqb x c)
unfolding standing count
one_more C c i x e = rw (add-one i, e) (ap (λ (n : ℕ). count i (λ j. eqb (column C j) c) + n) (sym (one _)))

pub one-most : (u : Bool) (a : ℕ) → a ≡ from_bool u → a ≤ 1
one-most true a e = omega arith
one-most false a e = omega arith

module _ (own other : Code) (c i balance : ℕ) (h : Balance own other c i balance) (l : i < 16) where
  pub balance-within : (1 ≤ balance) × (balance ≤ 31)
  unfolding standing
  balance-within =
      let p = count_le i (λ j. eqb (column own j) c) in
      let q = count_le i (λ j. eqb (column other j) c) in
      (omega arith, omega arith)

  pub balance-more : (x y a b n : ℕ) → x ≡ column own i → y ≡ column other i → a ≡ from_bool (eqb x c) → b ≡ from_bool (eqb y c) → n ≡ balance + a - b
      → Balance own other c (i + 1) n
  balance-more x y a b n e f p q r =
      omega (arith, one_more own c i x e, one_more other c i y f, one-most (eqb y c) b q, balance-within.0)

-- after all columns
pub balance-all : (own other : Code) (c i balance : ℕ) → i ≡ own.m → own.m ≡ other.m → Balance own other c i balance
    → balance + occurrences other c ≡ 16 + occurrences own c
unfolding standing occurrences
balance-all own other c i balance e f h =
    let a : count i (λ j. eqb (column own j) c) ≡ count own.m (λ j. eqb (column own j) c) = ap (λ (n : ℕ). count n (λ j. eqb (column own j) c)) e in
    let b : count i (λ j. eqb (column other j) c) ≡ count other.m (λ j. eqb (column other j) c) =
    ap (λ (n : ℕ). count n (λ j. eqb (column other j) c)) (e ∙ f) in
    omega arith

-- ---- each column of the one code

-- does column j stand as often in the other code as in its own?
abbrev pub same : Code → Code → ℕ → Bool
same own other j = eqb (occurrences own (column own j)) (occurrences other (column own j))

-- its balance tells
pub told : (own other : Code) (j c balance : ℕ) → c ≡ column own j → balance + occurrences other c ≡ 16 + occurrences own c
    → eqb balance 16 ≡ same own other j
told own other j c balance e h =
    subst (λ (x : ℕ). eqb balance 16 ≡ eqb (occurrences own x) (occurrences other x)) e
    (T-ext (λ t. eqb_in (omega (arith, h, eqb_out balance 16 t))) (λ t. eqb_in (omega (arith, h, eqb_out (occurrences own c) (occurrences other c) t))))

-- a test of the numbers from 0 on, one after the other
first_apart : (n : ℕ) (p : ℕ → Bool) → every (suc n) p ≡ (p 0 && every n (λ j. p (suc j)))
unfolding every
first_apart zero p = sym (and-true (p 0))
first_apart (suc n) p = ap (λ (b : Bool). b && p (suc n)) (first_apart n p) ∙ and_assoc (p 0) (every n (λ j. p (suc j))) (p (suc n))

in_turn : (a n : ℕ) (p : ℕ → Bool) → list_all p (range_with_len a n) ≡ every n (λ j. p (a + j))
unfolding every
in_turn a zero p = refl
in_turn a (suc n) p =
    ap (λ (b : Bool). p a && b)
    (in_turn (a + 1) n p ∙ every_cong n (λ j. p (a + 1 + j)) (λ j. p (a + suc j)) (λ j l. let e : a + 1 + j ≡ a + suc j = omega arith in ap p e))
    ∙ ap (λ (i : ℕ). p i && every n (λ j. p (a + suc j))) (sym (add-zero a)) ∙ sym (first_apart n (λ j. p (a + j)))

pub decided : (own other : Code) (n : ℕ) (r : Bool) → n ≡ own.m → own.m ≡ other.m → r ≡ list_all (same own other) (range_with_len 0 n)
    → r ≡ rearranged own other
unfolding as_often
decided own other n r e f h =
    h ∙ in_turn 0 n (same own other) ∙ every_cong n (λ j. same own other (0 + j)) (same own other) (λ j l. let z : 0 + j ≡ j = omega arith in ap (same own other) z)
    ∙ ap (λ (i : ℕ). every i (same own other)) e ∙ one_side_enough own other f
