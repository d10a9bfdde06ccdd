-- Laws of Boolean tests: what `T b` says of each connective and each comparison, as an introduction (-in) and an elimination (-out).
-- Assumes nothing.
use mathlib.Core.Path.{◌≡◌, refl, sym, subst}
use mathlib.Core.Bool.{Bool, true, false, not, ◌&&◌, ◌||◌}
use mathlib.Core.Logic.{◌⊎◌, inl, inr, ◌≢◌}
use Prim.Native.Nat.{ℕ, suc, ◌≤◌, ◌<◌}
use native.Mathlib.Nat.{le-suc_iff}
use native.Mathlib.Decide.{dec_lt}
use native.Mathlib.Omega.{arith}
use lib.Dec.{T, eqb, ltb, leb, eqb→eq, eqb_refl, ltb→lt, lt→ltb, leb→le, le→leb, T_not, not_T}
use Rattle.std.specs.Prelude.{if◌then◌else◌}

-- ---- a test and its value

pub dec : (b : Bool) → T b ⊎ (T b → ⊥)
dec true = inl tt
dec false = inr (λ t. t)

pub true-T : {b : Bool} → b ≡ true → T b
true-T e = subst T (sym e) tt

pub false-T : {b : Bool} → b ≡ false → T b → ⊥
false-T e t = subst T e t

pub T_true : {b : Bool} → T b → b ≡ true
T_true {b = true} t = refl
T_true {b = false} t = absurd t

pub T_false : {b : Bool} → (T b → ⊥) → b ≡ false
T_false {b = true} f = absurd (f tt)
T_false {b = false} f = refl

pub T-ext : {a b : Bool} → (T a → T b) → (T b → T a) → a ≡ b
T-ext {a = true} f g = sym (T_true (f tt))
T-ext {a = false} f g = sym (T_false g)

-- ---- the connectives

pub and_in : (a b : Bool) → T a → T b → T (a && b)
and_in true b t u = u
and_in false b t u = t

pub and_out : (a b : Bool) → T (a && b) → T a × T b
and_out true b t = (tt, t)
and_out false b t = absurd t

-- a || b: b, unless a
pub unless_in : (a b : Bool) → ((T a → ⊥) → T b) → T (a || b)
unless_in true b f = tt
unless_in false b f = f (λ t. t)

pub unless_out : (a b : Bool) → T (a || b) → (T a → ⊥) → T b
unless_out true b t f = absurd (f tt)
unless_out false b t f = t

pub not_in : (b : Bool) → (T b → ⊥) → T (not b)
not_in = not_T

pub not_out : (b : Bool) → T (not b) → T b → ⊥
not_out = T_not

-- ---- the comparisons

pub eqb_in : {a b : ℕ} → a ≡ b → T (eqb a b)
eqb_in {a} e = subst (λ (x : ℕ). T (eqb a x)) e (eqb_refl a)

pub eqb_out : (a b : ℕ) → T (eqb a b) → a ≡ b
eqb_out = eqb→eq

pub eqb_sym : (a b : ℕ) → eqb a b ≡ eqb b a
eqb_sym a b = T-ext (λ t. eqb_in (sym (eqb_out a b t))) (λ t. eqb_in (sym (eqb_out b a t)))

pub neqb_in : {a b : ℕ} → a ≢ b → T (not (eqb a b))
neqb_in {a} {b} f = not_in (eqb a b) (λ t. f (eqb_out a b t))

pub neqb_out : (a b : ℕ) → T (not (eqb a b)) → a ≢ b
neqb_out a b t e = not_out (eqb a b) t (eqb_in e)

pub ltb_in : {a b : ℕ} → a < b → T (ltb a b)
ltb_in {a} {b} = lt→ltb a b

pub ltb_out : (a b : ℕ) → T (ltb a b) → a < b
ltb_out = ltb→lt

pub leb_in : {a b : ℕ} → a ≤ b → T (leb a b)
leb_in {a} {b} = le→leb a b

pub leb_out : (a b : ℕ) → T (leb a b) → a ≤ b
leb_out = leb→le

-- below suc n: below n, or n
pub below_suc : (i n : ℕ) → i < suc n → (i < n) ⊎ (i ≡ n)
below_suc i n l = go (le-suc_iff.0 l)
  where
    go : (suc i ≤ n) ⊎ (suc i ≡ suc n) → (i < n) ⊎ (i ≡ n)
    go (inl m) = inl m
    go (inr q) = inr (omega arith)

pub below_or : (i n : ℕ) → (i < n) ⊎ (n ≤ i)
below_or i n = elim (dec_lt i n) [ yes h ↦ inl h | no h ↦ inr (omega arith) ]

-- ---- a choice

module _ {A : Type 0} where
  pub if_true : (b : Bool) (x y : A) → T b → (if b then x else y) ≡ x
  if_true true x y t = refl
  if_true false x y t = absurd t

  pub if_false : (b : Bool) (x y : A) → (T b → ⊥) → (if b then x else y) ≡ y
  if_false true x y f = absurd (f tt)
  if_false false x y f = refl
