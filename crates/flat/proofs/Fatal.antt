-- A set is fatal where a nonzero codeword lies inside it, and a minimal erasure where it is a minimal word of the codewords' span.
-- Assumes nothing.
use mathlib.Core.Path.{◌≡◌, refl, sym, ap, ◌∙◌, subst}
use mathlib.Core.Bool.{not, ◌&&◌, ◌||◌}
use mathlib.Core.Logic.{◌⊎◌, inl, inr, ◌≢◌, ◌↔◌}
use mathlib.Core.List.{List, [], ◌∷◌}
use Prim.Native.Nat.{ℕ, ◌^◌, ◌≤◌, ◌<◌}
use lib.Dec.{T, eqb}
use lib.Pow.{pow_pos}
use Rattle.gf2.specs.Sets.{has, ◌⊕◌, ◌⊆◌}
use Rattle.gf2.specs.Span.{InSpan, Independent, Minimal}
use Rattle.gf2.specs.Within.{within}
use Rattle.gf2.proofs.Tests.{dec, and_in, and_out, unless_in, unless_out, eqb_in, eqb_out, neqb_in, neqb_out, below_or}
use Rattle.gf2.proofs.Bits.{has-not, not-has, bit_above}
use Rattle.gf2.proofs.Xor.{⊕_lt, ⊕_self, ⊕-zero, ⊕_cancel}
use Rattle.gf2.proofs.Subsets.{⊆_in, ⊆_out, ⊆-refl, ⊆_trans, ⊆_antisym}
use Rattle.gf2.proofs.Spans.{at, zero_in, first_in}
use Rattle.gf2.proofs.Elimination.{within-spans, within-indep}
use Rattle.flat.specs.Lists.{some}
use Rattle.flat.specs.Cards.{Code, disks}
use Rattle.flat.specs.Erasures.{holds_bit, agree_outside, fatal, minimal_erasure}
use Rattle.flat.specs.Spans.{codeword, rows}
use Rattle.flat.proofs.Quantifiers.{some_in, some_out, every_in, every_out}
use Rattle.flat.proofs.Words.{word-⊕, codeword_lt, codeword-bit, codeword-zero, codeword-nonzero}
use Rattle.flat.proofs.Rows.{rows_span, rows-indep}
use Rattle.flat.proofs.Least.{Least, least_in, least_out}

module _ (C : Code) where
  -- two data words agree outside S where the codeword of their XOR lies inside S
  pub agree_in : (S x y : ℕ) → T (codeword C (x ⊕ y) ⊆ S) → T (agree_outside C S x y)
  unfolding agree_outside
  agree_in S x y t =
      every_in (disks C) (λ i. has S i || eqb (holds_bit C x i) (holds_bit C y i))
      (λ i l. unless_in (has S i) (eqb (holds_bit C x i) (holds_bit C y i))
      (λ f. eqb_in
      (⊕_cancel (holds_bit C x i) (holds_bit C y i)
      (sym (word-⊕ C x y i) ∙ sym (codeword-bit C (x ⊕ y) i l) ∙ has-not (codeword C (x ⊕ y)) i (λ m. f (⊆_out (codeword C (x ⊕ y)) S t i m))))))

  pub agree_out : (S x y : ℕ) → T (agree_outside C S x y) → T (codeword C (x ⊕ y) ⊆ S)
  unfolding agree_outside
  agree_out S x y t = ⊆_in (codeword C (x ⊕ y)) S (λ i m. go i m (dec (has S i)) (below_or i (disks C)))
    where
      go : (i : ℕ) → T (has (codeword C (x ⊕ y)) i) → T (has S i) ⊎ (T (has S i) → ⊥) → (i < disks C) ⊎ (disks C ≤ i) → T (has S i)
      go i m (inl s) b = s
      go i m (inr f) (inr l) = absurd (not-has (codeword C (x ⊕ y)) i (bit_above (disks C) (codeword C (x ⊕ y)) i (codeword_lt C (x ⊕ y)) l) m)
      go i m (inr f) (inl l) =
          let e : holds_bit C x i ≡ holds_bit C y i =
          eqb_out (holds_bit C x i) (holds_bit C y i)
          (unless_out (has S i) (eqb (holds_bit C x i) (holds_bit C y i)) (every_out (disks C) (λ j. has S j || eqb (holds_bit C x j) (holds_bit C y j)) t i l) f) in
          absurd
          (not-has (codeword C (x ⊕ y)) i
          (codeword-bit C (x ⊕ y) i l ∙ word-⊕ C x y i ∙ ap (λ (v : ℕ). v ⊕ holds_bit C y i) e ∙ ⊕_self (holds_bit C y i)) m)

  -- a nonzero word of the codewords inside S
  abbrev pub Inside : ℕ → Type 0
  Inside S = (w : ℕ) × InSpan (rows C) w × (w ≢ 0) × T (w ⊆ S)

  pub fatal_out : (S : ℕ) → T (fatal C S) → (x : ℕ) × (x < 2 ^ C.k) × (x ≢ 0) × T (codeword C x ⊆ S)
  unfolding fatal
  fatal_out S t =
      let a = some_out (2 ^ C.k) (λ x. some (2 ^ C.k) (λ y. not (eqb x y) && agree_outside C S x y)) t in
      let b = some_out (2 ^ C.k) (λ y. not (eqb a.0 y) && agree_outside C S a.0 y) a.2 in
      let c = and_out (not (eqb a.0 b.0)) (agree_outside C S a.0 b.0) b.2 in
      (a.0 ⊕ b.0, ⊕_lt C.k a.0 b.0 a.1 b.1, λ e. neqb_out a.0 b.0 c.0 (⊕_cancel a.0 b.0 e), agree_out S a.0 b.0 c.1)

  pub fatal_in : (S x : ℕ) → x < 2 ^ C.k → x ≢ 0 → T (codeword C x ⊆ S) → T (fatal C S)
  unfolding fatal
  fatal_in S x l f t =
      some_in (2 ^ C.k) (λ y. some (2 ^ C.k) (λ z. not (eqb y z) && agree_outside C S y z)) (
        x,
        l,
        some_in (2 ^ C.k) (λ z. not (eqb x z) && agree_outside C S x z) (
          0,
          pow_pos C.k,
          and_in (not (eqb x 0)) (agree_outside C S x 0) (neqb_in f) (agree_in S x 0 (subst (λ (y : ℕ). T (codeword C y ⊆ S)) (sym (⊕-zero x)) t)),
        ),
      )

  pub fatal-inside : (S : ℕ) → T (fatal C S) ↔ Inside S
  fatal-inside S = (
    λ t. let r = fatal_out S t in (codeword C r.0, (rows_span C (codeword C r.0)).1 (r.0, r.1, refl), codeword-nonzero C r.0 r.1 r.2, r.3),
    λ r. let s = (rows_span C r.0).0 r.1 in
        fatal_in S s.0 s.1 (λ e. r.2 (sym s.2 ∙ ap (codeword C) e ∙ codeword-zero C)) (subst (λ (w : ℕ). T (w ⊆ S)) (sym s.2) r.3),
  )

  -- a word of the codewords is a set of the code's disks
  pub word_below : (w : ℕ) → InSpan (rows C) w → w < 2 ^ disks C
  word_below w s = let r = (rows_span C w).0 s in subst (λ (y : ℕ). y < 2 ^ disks C) r.2 (codeword_lt C r.0)

  pub fatal-more : (R S : ℕ) → T (R ⊆ S) → T (fatal C R) → T (fatal C S)
  fatal-more R S t f = let r = (fatal-inside R).0 f in (fatal-inside S).1 (r.0, r.1, r.2, ⊆_trans r.0 R S r.3 t)

  -- ---- minimal erasures

  pub erasure_least : (S : ℕ) → T (minimal_erasure C S) ↔ Least (disks C) (fatal C) S
  unfolding minimal_erasure
  erasure_least S = (least_out (disks C) (fatal C) S, least_in (disks C) (fatal C) S)

  pub minimal_in : (S : ℕ) → Minimal (rows C) S → T (minimal_erasure C S)
  minimal_in S m =
      (erasure_least S).1
      (record {
        holds = (fatal-inside S).1 (S, m.word, m.nonzero, ⊆-refl S);
        alone = λ R l t f. let r = (fatal-inside R).0 f in
            let e : r.0 ≡ S = m.alone r.0 r.1 r.2 (⊆_trans r.0 R S r.3 t) in
            ⊆_antisym R S t (subst (λ (w : ℕ). T (w ⊆ R)) e r.3);
      })

  pub minimal_out : (S : ℕ) → T (minimal_erasure C S) → Minimal (rows C) S
  minimal_out S t =
      let a = (erasure_least S).0 t in
      let alone : (R : ℕ) → InSpan (rows C) R → R ≢ 0 → T (R ⊆ S) → R ≡ S =
      λ R s f u. a.alone R (word_below R s) u ((fatal-inside R).1 (R, s, f, ⊆-refl R)) in
      let r = (fatal-inside S).0 a.holds in
      let e : r.0 ≡ S = alone r.0 r.1 r.2 r.3 in
      record { word = at (rows C) e r.1; nonzero = λ z. r.2 (e ∙ z); alone = alone }

  -- ---- what `within` leaves decides

  pub fatal-left : (S : ℕ) → T (fatal C S) ↔ (within S (rows C) ≢ [])
  fatal-left S = (
    λ t e. let r = (fatal-inside S).0 t in
        r.2 (subst (λ (l : List ℕ). InSpan l r.0) e ((within-spans S (rows C) r.0).1 (r.1, r.3))),
    λ f. go (within S (rows C)) f (within-indep S (rows C) (rows-indep C)) (λ w s. (within-spans S (rows C) w).0 s),
  )
    where
      go : (l : List ℕ) → l ≢ [] → Independent l → ((w : ℕ) → InSpan l w → InSpan (rows C) w × T (w ⊆ S)) → T (fatal C S)
      go [] f i s = absurd (f refl)
      go (b ∷ bs) f i s =
          let p = s b (first_in b bs) in
          (fatal-inside S).1 (b, p.0, λ e. i.1 (at bs (sym e) (zero_in bs)), p.1)
