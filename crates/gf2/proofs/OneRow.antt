-- A word of the span of independent rows is minimal exactly where one row is left inside it: two rows would be two words inside it. And the
-- smallest words that hold some disk are minimal.
-- Assumes nothing.
use mathlib.Core.Path.{◌≡◌, refl, sym, ap, ◌∙◌, subst}
use mathlib.Core.Logic.{inl, inr, ◌≢◌, ◌↔◌, ⊎_elim}
use mathlib.Core.List.{List, [], ◌∷◌}
use Prim.Native.Nat.{ℕ}
use native.Mathlib.Omega.{arith}
use lib.Dec.{T}
use lib.ListN.{length}
use Rattle.gf2.specs.Sets.{has, ◌⊕◌, ◌⊆◌}
use Rattle.gf2.specs.Span.{InSpan, Independent, Minimal}
use Rattle.gf2.specs.Within.{within}
use Rattle.gf2.proofs.Tests.{dec}
use Rattle.gf2.proofs.Bits.{no_disk}
use Rattle.gf2.proofs.Xor.{⊕_self, ⊕-back, ⊕_cancel}
use Rattle.gf2.proofs.Subsets.{⊆-refl, ⊆-zero, ⊕-left, ⊕-⊆}
use Rattle.gf2.proofs.Spans.{at, zero_in, first_in, sum_in}
use Rattle.gf2.proofs.Elimination.{SpansInside, within-spans, within-indep}

-- an independent row is not 0
nonzero-row : (b : ℕ) (bs : List ℕ) → ¬ InSpan bs b → b ≢ 0
nonzero-row b bs f e = f (at bs (sym e) (zero_in bs))

-- l, in what follows, are independent rows that span the words of bs inside w
abbrev Left : List ℕ → ℕ → List ℕ → Type 0
Left bs w l = Independent l × SpansInside w bs l

one_left : (bs : List ℕ) (w : ℕ) (l : List ℕ) → Left bs w l → Minimal bs w → length l ≡ 1
one_left bs w [] (i, s) m = absurd (m.nonzero ((s w).1 (m.word, ⊆-refl w)))
one_left bs w (a ∷ []) (i, s) m = refl
one_left bs w (a ∷ b ∷ r) (i, s) m =
    absurd (i.1 (at (b ∷ r) (is-w b (nonzero-row b r i.0.1) (inl (first_in b r)) ∙ sym (is-w a (nonzero-row a (b ∷ r) i.1) (first_in a (b ∷ r)))) (first_in b r)))
  where
    is-w : (v : ℕ) → v ≢ 0 → InSpan (a ∷ b ∷ r) v → v ≡ w
    is-w v f h = let p = (s v).0 h in m.alone v p.0 f p.1

-- one row spans itself and 0
one_word : (a v : ℕ) → v ≢ 0 → InSpan (a ∷ []) v → v ≡ a
one_word a v f (inl e) = absurd (f e)
one_word a v f (inr e) = sym (⊕_cancel a v e)

left_one : (bs : List ℕ) (w : ℕ) (l : List ℕ) → Left bs w l → InSpan bs w → length l ≡ 1 → Minimal bs w
left_one bs w [] (i, s) h e = absurd (omega arith)
left_one bs w (a ∷ []) (i, s) h e =
    let f : w ≢ 0 = λ z. i.1 (⊆-zero a (subst (λ (x : ℕ). T (a ⊆ x)) z ((s a).0 (first_in a [])).1)) in
    let q : w ≡ a = one_word a w f ((s w).1 (h, ⊆-refl w)) in
    record { word = h; nonzero = f; alone = λ v g n t. one_word a v n ((s v).1 (g, t)) ∙ sym q }
left_one bs w (a ∷ b ∷ r) (i, s) h e = absurd (omega arith)

pub one-row : (bs : List ℕ) (w : ℕ) → Independent bs → InSpan bs w → Minimal bs w ↔ (length (within w bs) ≡ 1)
one-row bs w i h =
    let l = within w bs in
    let k : Left bs w l = (within-indep w bs i, within-spans w bs) in
    (one_left bs w l k, left_one bs w l k h)

-- a word that holds disk d, where no smaller one does, is minimal: what it has more than a word inside it without d is one that holds d
pub smallest_holder : (bs : List ℕ) (d w : ℕ) → InSpan bs w → T (has w d) → ((v : ℕ) → InSpan bs v → T (has v d) → T (v ⊆ w) → v ≡ w) → Minimal bs w
smallest_holder bs d w s m h =
    record {
      word = s;
      nonzero = λ e. no_disk d (subst (λ (x : ℕ). T (has x d)) e m);
      alone = λ v t f u. ⊎_elim (λ i. h v t i u)
          (λ i. let q : w ⊕ v ≡ w = h (w ⊕ v) (sum_in bs w v s t) (⊕-left w v d m i) (⊕-⊆ w v w (⊆-refl w) u) in
          absurd (f (sym (⊕-back w v) ∙ ap (λ (x : ℕ). w ⊕ x) q ∙ ⊕_self w)))
          (dec (has v d));
    }
