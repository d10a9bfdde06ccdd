-- A walk of the words of a span by steps, and the least of what is met.
-- Assumes nothing.
use mathlib.Core.Path.{◌≡◌, sym, ap, ◌∙◌, subst}
use mathlib.Core.Logic.{⊎_elim, ◌≢◌}
use mathlib.Core.List.{List}
use Prim.Native.Nat.{ℕ, ◌+◌, ◌-◌, ◌^◌, ◌≤◌, ◌<◌, min}
use native.Mathlib.Omega.{arith}
use lib.Bits.{bit_xor}
use lib.ListN.{length, get_or, take}
use Rattle.gf2.specs.Sets.{◌⊕◌}
use Rattle.gf2.specs.Span.{select}
use Rattle.gf2.specs.Within.{lowest}
use Rattle.gf2.proofs.Subsets.{lowest_lt}
use Rattle.gf2.proofs.Tests.{below_or}
use Rattle.gf2.proofs.Xor.{⊕-zero}
use Rattle.flat.specs.Lists.{tabulate}
use Rattle.minimal_words.specs.Listed.{step_of}
use Rattle.minimal_words.proofs.Stepping.{word_none, word_next}
use Rattle.minimal_marks.proofs.Entries.{end_small, select-take}
use Rattle.least_wear.specs.Forms.{rank_in, LeastOf}

-- ---- steps: from the word of the number before x to that of x

module _ (words : List ℕ) (x i : ℕ) (few : length words ≤ 16) (f : x ≢ 0) (l : x < 2 ^ length words) (e : i ≡ lowest x) where
  pub step_low : i < 16
  step_low = rw e (lowest_lt 16 x f (omega (arith, end_small (length words) few)))

  pub step_word : (rows steps : List ℕ) (w : ℕ) → take (length words) rows ≡ words → length rows ≡ 16 → steps ≡ tabulate 16 (step_of rows)
      → w ≡ select words (x - 1) → bit_xor w (get_or steps i 0) ≡ select words x
  step_word rows steps w r long s q =
      word_next rows steps x i w f (omega (arith, end_small (length words) few)) e s (q ∙ sym (same (x - 1) (omega arith))) ∙ same x l
    where
      same : (y : ℕ) → y < 2 ^ length words → select rows y ≡ select words y
      same y g = select-take (length words) rows y (omega (arith, few, long)) g ∙ ap (λ (ws : List ℕ). select ws y) r

-- ---- the least of some

module _ (g : ℕ → ℕ) where
  pub least-one : (r : ℕ) → r ≡ g 0 → LeastOf g 1 r
  least-one r e =
      record { place = 0; below = omega arith; is = e; least = λ x l. let z : x ≡ 0 = omega arith in omega (arith, e, ap g z) }

  pub least_more : (x v r : ℕ) → LeastOf g x r → v ≡ g x → LeastOf g (x + 1) (min v r)
  least_more x v r h e =
      ⊎_elim
      (λ l. let m : min v r ≡ v = omega arith in
      subst (LeastOf g (x + 1)) (sym m)
      (record {
        place = x;
        below = omega arith;
        is = e;
        least = λ y k. ⊎_elim (λ b. omega (arith, h.least y b)) (λ b. let z : y ≡ x = omega arith in omega (arith, e, ap g z)) (below_or y x);
      }))
      (λ l. let m : min v r ≡ r = omega arith in
      subst (LeastOf g (x + 1)) (sym m)
      (record {
        place = h.place;
        below = omega (arith, h.below);
        is = h.is;
        least = λ y k. ⊎_elim (λ b. h.least y b) (λ b. let z : y ≡ x = omega arith in omega (arith, e, ap g z)) (below_or y x);
      }))
      (below_or v r)

pub least-same : (f g : ℕ → ℕ) (n r : ℕ) → ((x : ℕ) → x < n → f x ≡ g x) → LeastOf f n r → LeastOf g n r
least-same f g n r e h =
    record {
      place = h.place;
      below = h.below;
      is = h.is ∙ e h.place h.below;
      least = λ x l. omega (arith, h.least x l, e x l);
    }

-- ---- ranks met on a walk

-- what the word of number x makes of the set E
abbrev pub met : List ℕ → ℕ → List ℕ → ℕ → ℕ
met table E words x = rank_in table (E ⊕ select words x)

pub met_first : (table : List ℕ) (E : ℕ) (words : List ℕ) (r : ℕ) → r ≡ rank_in table E → LeastOf (met table E words) 1 r
met_first table E words r e =
    least-one (met table E words) r (e ∙ ap (rank_in table) (sym (⊕-zero E) ∙ ap (λ (w : ℕ). E ⊕ w) (word_none words)))

pub met_more : (table : List ℕ) (E : ℕ) (words : List ℕ) (x v w r : ℕ) → LeastOf (met table E words) x r → w ≡ select words x
    → v ≡ rank_in table (bit_xor E w) → LeastOf (met table E words) (x + 1) (min v r)
unfolding ◌⊕◌
met_more table E words x v w r h e q =
    least_more (met table E words) x v r h (q ∙ ap (λ (u : ℕ). rank_in table (bit_xor E u)) e)
