-- Of a lost disk, either some equation among the survivors tells it, or some codeword inside the lost set holds it, and not both.
-- Assumes nothing.
use mathlib.Core.Path.{◌≡◌, sym, ap, ◌∙◌, subst}
use mathlib.Core.Bool.{Bool, true, false, not, ◌&&◌}
use mathlib.Core.Logic.{◌⊎◌, inl, inr, ◌≢◌, ◌↔◌, ⊎_elim}
use Prim.Native.Nat.{ℕ, ◌^◌, ◌≤◌, ◌<◌}
use lib.Dec.{T, eqb}
use lib.Pow.{pow_pos}
use Rattle.std.specs.Prelude.{if◌then◌else◌}
use Rattle.gf2.specs.Sets.{bit, has, ◌⊕◌, ◌⊆◌, ◌∖◌, over}
use Rattle.gf2.specs.Span.{InSpan}
use Rattle.gf2.specs.Within.{lowest}
use Rattle.gf2.proofs.Tests.{dec, T_false, and_in, and_out, not_in, not_out, eqb_in, eqb_out, neqb_in, neqb_out, below_or}
use Rattle.gf2.proofs.Bits.{bit-of-zero, bit_above, has_in, has-not, not-has}
use Rattle.gf2.proofs.Xor.{⊕_lt, ⊕-zero, ⊕_cancel}
use Rattle.gf2.proofs.Subsets.{⊆_in, ⊆_out, ∖_out, lowest-has}
use Rattle.gf2.proofs.Sums.{over_cong, over_zero, over-bit, over_comm, over-over, over-less, if_has, in_select}
use Rattle.flat.specs.Lists.{some, every, set_of, tabulate}
use Rattle.flat.specs.Cards.{Code, disks}
use Rattle.flat.specs.Erasures.{holds_bit, agree_outside, survivors, fatal, undetermined}
use Rattle.flat.specs.Equations.{equation}
use Rattle.flat.specs.Checks.{row}
use Rattle.flat.specs.Spans.{codeword, rows}
use Rattle.flat.proofs.Lists.{length-tabulate}
use Rattle.flat.proofs.Quantifiers.{some_in, some_out, every_in, every_out, set_lt, bit-set, set_in, set_out}
use Rattle.flat.proofs.Words.{word-⊕, word-zero, codeword_lt, codeword-bit, codeword-zero, codeword-nonzero}
use Rattle.flat.proofs.Rows.{select-rows, select-tabulate}
use Rattle.flat.proofs.Fatal.{agree_in, agree_out, fatal_in, fatal_out}
use Rattle.flat.proofs.Separation.{dot, Apart, separate}

module _ (C : Code) where
  -- ---- what an equation is

  abbrev pub Equation : ℕ → ℕ → Type 0
  Equation d E = (T (has E d) → ⊥) × ((x : ℕ) → x < 2 ^ C.k → over (disks C) E (holds_bit C x) ≡ holds_bit C x d)

  pub equation_in_lem : (d E : ℕ) → Equation d E → T (equation C d E)
  unfolding equation
  equation_in_lem d E (f, e) =
      and_in (not (has E d)) (every (2 ^ C.k) (λ x. eqb (over (disks C) E (holds_bit C x)) (holds_bit C x d))) (not_in (has E d) f)
      (every_in (2 ^ C.k) (λ x. eqb (over (disks C) E (holds_bit C x)) (holds_bit C x d)) (λ x l. eqb_in (e x l)))

  pub equation_out : (d E : ℕ) → T (equation C d E) → Equation d E
  unfolding equation
  equation_out d E t =
      let a = and_out (not (has E d)) (every (2 ^ C.k) (λ x. eqb (over (disks C) E (holds_bit C x)) (holds_bit C x d))) t in (
        not_out (has E d) a.0,
        λ x l. eqb_out (over (disks C) E (holds_bit C x)) (holds_bit C x d)
            (every_out (2 ^ C.k) (λ y. eqb (over (disks C) E (holds_bit C y)) (holds_bit C y d)) a.1 x l),
      )

  -- ---- the functional of a disk: the data disks whose XOR it holds

  functional : ℕ → ℕ
  functional i = set_of C.k (λ d. has (row C d) i)

  functional_holds : (x i : ℕ) → i < disks C → holds_bit C x i ≡ dot C.k (functional i) x
  unfolding functional rows
  functional_holds x i l =
      sym (codeword-bit C x i l) ∙ ap (λ (w : ℕ). bit w i) (sym (select-rows C x) ∙ select-tabulate C.k x (row C))
      ∙ over-bit C.k x (row C) i
      ∙ over_cong C.k x (λ d. bit (row C d) i) (bit (functional i))
      (λ d m t. sym (if_has (row C d) i) ∙ sym (bit-set C.k (λ e. has (row C e) i) d m))
      ∙ over_comm C.k x (functional i)

  -- ---- duality, disk by disk

  -- a word of the codewords inside S that holds disk d
  abbrev pub Held : ℕ → ℕ → Type 0
  Held S d = (x : ℕ) × (x < 2 ^ C.k) × T (codeword C x ⊆ S) × T (has (codeword C x) d)

  -- an equation of disk d among the survivors of S
  abbrev pub Told : ℕ → ℕ → Type 0
  Told S d = (E : ℕ) × T (E ⊆ survivors C S) × T (equation C d E)

  pub survivor_out : (S i : ℕ) → T (has (survivors C S) i) → (i < disks C) × (T (has S i) → ⊥)
  unfolding survivors
  survivor_out S i t = let p = set_out (disks C) (λ j. not (has S j)) i t in (p.0, not_out (has S i) p.1)

  pub survivor_in : (S i : ℕ) → i < disks C → (T (has S i) → ⊥) → T (has (survivors C S) i)
  unfolding survivors
  survivor_in S i l f = set_in (disks C) (λ j. not (has S j)) i l (not_in (has S i) f)

  pub survivors_lt : (S : ℕ) → survivors C S < 2 ^ disks C
  unfolding survivors
  survivors_lt S = set_lt (disks C) (λ j. not (has S j))

  -- 0 where S is lost
  left : ℕ → ℕ → ℕ
  left S i = if has S i then 0 else functional i

  left_lt : (S i : ℕ) → left S i < 2 ^ C.k
  unfolding left functional
  left_lt S i = go (has S i)
    where
      go : (b : Bool) → (if b then 0 else functional i) < 2 ^ C.k
      go true = pow_pos C.k
      go false = set_lt C.k (λ d. has (row C d) i)

  held : (S d : ℕ) → d < disks C → Apart C.k (disks C) (left S) (functional d) → Held S d
  unfolding left
  held S d l a =
      let x = a.word in (
        x,
        a.below,
        ⊆_in (codeword C x) S (λ i m. go i m (dec (has S i)) (below_or i (disks C))),
        has_in (codeword C x) d (codeword-bit C x d l ∙ functional_holds x d l ∙ a.one),
      )
    where
      go : (i : ℕ) → T (has (codeword C a.word) i) → T (has S i) ⊎ (T (has S i) → ⊥) → (i < disks C) ⊎ (disks C ≤ i) → T (has S i)
      go i m (inl s) b = s
      go i m (inr f) (inr b) =
          absurd (not-has (codeword C a.word) i (bit_above (disks C) (codeword C a.word) i (codeword_lt C a.word) b) m)
      go i m (inr f) (inl b) =
          absurd
          (not-has (codeword C a.word) i
          (codeword-bit C a.word i b ∙ functional_holds a.word i b
          ∙ ap (λ (g : ℕ). dot C.k g a.word) (rw (T_false {b = has S i} f)) ∙ a.zeros i b) m)

  told : (S d : ℕ) → d < disks C → T (has S d) → InSpan (tabulate (disks C) (left S)) (functional d) → Told S d
  unfolding left
  told S d l s h =
      let r = in_select (tabulate (disks C) (left S)) (functional d) h in
      let y = r.0 in
      let sum : over (disks C) (y ∖ S) functional ≡ functional d =
      sym (over-less (disks C) y S functional) ∙ sym (select-tabulate (disks C) y (left S)) ∙ r.2 in (
        y ∖ S,
        ⊆_in (y ∖ S) (survivors C S) (λ i t. let p = ∖_out y S i t in survivor_in S i (below i p.0 (subst (λ (n : ℕ). y < 2 ^ n) (length-tabulate (disks C) (left S)) r.1) (below_or i (disks C))) p.1),
        equation_in_lem d (y ∖ S) (
          λ t. (∖_out y S d t).1 s,
          λ x m. over_cong (disks C) (y ∖ S) (holds_bit C x) (λ i. dot C.k (functional i) x) (λ i n t. functional_holds x i n)
              ∙ sym (over-over C.k (disks C) (y ∖ S) functional (bit x)) ∙ ap (λ (g : ℕ). dot C.k g x) sum ∙ sym (functional_holds x d l),
        ),
      )
    where
      below : (i : ℕ) {y : ℕ} → T (has y i) → y < 2 ^ disks C → (i < disks C) ⊎ (disks C ≤ i) → i < disks C
      below i t b (inl m) = m
      below i {y} t b (inr m) = absurd (not-has y i (bit_above (disks C) y i b m) t)

  pub told-or-held : (S d : ℕ) → d < disks C → T (has S d) → Told S d ⊎ Held S d
  unfolding functional
  told-or-held S d l s =
      ⊎_elim (λ h. inl (told S d l s h)) (λ a. inr (held S d l a))
      (separate C.k (disks C) (left S) (functional d) (λ i m. left_lt S i) (set_lt C.k (λ e. has (row C e) d)))

  -- a codeword inside S is 0 on the survivors, and so on what they tell
  pub told-not-held : (S d : ℕ) → d < disks C → Told S d → Held S d → ⊥
  told-not-held S d l (E, t, q) (x, b, u, m) =
      let e = equation_out d E q in
      let zero : (i : ℕ) → i < disks C → T (has E i) → holds_bit C x i ≡ 0 =
      λ i n h. sym (codeword-bit C x i n) ∙ has-not (codeword C x) i (λ w. (survivor_out S i (⊆_out E (survivors C S) t i h)).1 (⊆_out (codeword C x) S u i w)) in
      let z : holds_bit C x d ≡ 0 = sym (e.1 x b) ∙ over_cong (disks C) E (holds_bit C x) (λ i. 0) zero ∙ over_zero (disks C) E in
      not-has (codeword C x) d (codeword-bit C x d l ∙ z) m

  -- ---- fatal and undetermined

  -- a disk of a codeword is one of the code's
  pub disk-below : (x i : ℕ) → T (has (codeword C x) i) → i < disks C
  unfolding codeword
  disk-below x i t = (set_out (disks C) (λ j. eqb (holds_bit C x j) 1) i t).0

  pub held-fatal : (S d : ℕ) → Held S d → T (fatal C S)
  held-fatal S d (x, l, t, m) =
      fatal_in C S x l (λ e. not-has (codeword C x) d (ap (λ (y : ℕ). bit (codeword C y) d) e ∙ ap (λ (w : ℕ). bit w d) (codeword-zero C) ∙ bit-of-zero d) m) t

  pub fatal-untold : (S : ℕ) → T (fatal C S) ↔ ((d : ℕ) × (d < disks C) × T (has S d) × (Told S d → ⊥))
  fatal-untold S = (
    λ t. let r = fatal_out C S t in
        let x = r.0 in
        let d = lowest (codeword C x) in
        let m : T (has (codeword C x) d) = lowest-has (codeword C x) (codeword-nonzero C x r.1 r.2) in
        (d, disk-below x d m, ⊆_out (codeword C x) S r.3 d m, λ u. told-not-held S d (disk-below x d m) u (x, r.1, r.3, m)),
    λ r. ⊎_elim (λ u. absurd (r.3 u)) (held-fatal S r.0) (told-or-held S r.0 r.1 r.2),
  )

  pub undetermined-held : (S d : ℕ) → d < disks C → T (undetermined C S d) ↔ Held S d
  unfolding undetermined
  undetermined-held S d l = (
    λ t. let a = some_out (2 ^ C.k) (λ x. some (2 ^ C.k) (λ y. differ x y)) t in
        let b = some_out (2 ^ C.k) (λ y. differ a.0 y) a.2 in
        let x = a.0 in
        let y = b.0 in
        let c = and_out (agree_outside C S x y) (not (eqb (holds_bit C x d) (holds_bit C y d))) b.2 in (
          x ⊕ y,
          ⊕_lt C.k x y a.1 b.1,
          agree_out C S x y c.0,
          apart x y (neqb_out (holds_bit C x d) (holds_bit C y d) c.1) (dec (has (codeword C (x ⊕ y)) d)),
        ),
    λ (x, b, u, m). some_in (2 ^ C.k) (λ x. some (2 ^ C.k) (λ y. differ x y)) (
      x,
      b,
      some_in (2 ^ C.k) (λ y. differ x y) (
        0,
        pow_pos C.k,
        and_in (agree_outside C S x 0) (not (eqb (holds_bit C x d) (holds_bit C 0 d)))
            (agree_in C S x 0 (subst (λ (y : ℕ). T (codeword C y ⊆ S)) (sym (⊕-zero x)) u))
            (neqb_in (λ e. not-has (codeword C x) d (codeword-bit C x d l ∙ e ∙ word-zero C d) m)),
      ),
    ),
  )
    where
      differ : ℕ → ℕ → Bool
      differ x y = agree_outside C S x y && not (eqb (holds_bit C x d) (holds_bit C y d))

      apart : (x y : ℕ) → holds_bit C x d ≢ holds_bit C y d → T (has (codeword C (x ⊕ y)) d) ⊎ (T (has (codeword C (x ⊕ y)) d) → ⊥)
          → T (has (codeword C (x ⊕ y)) d)
      apart x y f (inl t) = t
      apart x y f (inr g) =
          absurd
          (f (⊕_cancel (holds_bit C x d) (holds_bit C y d)
          (sym (word-⊕ C x y d) ∙ sym (codeword-bit C (x ⊕ y) d l) ∙ has-not (codeword C (x ⊕ y)) d g)))

  pub undetermined-untold : (S d : ℕ) → d < disks C → T (has S d) → T (undetermined C S d) ↔ (Told S d → ⊥)
  undetermined-untold S d l s = (
    λ t u. told-not-held S d l u ((undetermined-held S d l).0 t),
    λ f. ⊎_elim (λ u. absurd (f u)) (undetermined-held S d l).1 (told-or-held S d l s),
  )
