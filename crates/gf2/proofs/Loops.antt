-- The loops of the code: what each has done so far, a turn of it, and its end. The code's i + 1 is a definition's suc i.
-- Assumes nothing.
use mathlib.Core.Path.{◌≡◌, refl, sym, ap, ◌∙◌}
use mathlib.Core.List.{List, [], ◌∷◌, ◌++◌, map, append-nil}
use Prim.Native.Nat.{ℕ, zero, suc, ◌+◌, ◌≤◌, ◌<◌}
use native.Mathlib.Omega.{arith}
use native.Mathlib.Numerals.{add-one}
use lib.Bits.{bit_or, bit_xor}
use lib.Dec.{T}
use lib.ListN.{length, get_or, take, drop, drop_of_length-le, set}
use lib.Seq.{drop-cons, get_or-take, length-take-le, take-suc-set, append_snoc}
use Rattle.std.specs.Prelude.{if◌then◌else◌}
use Rattle.gf2.specs.Sets.{has, ◌∖◌, ◌⊆◌, ◌∪◌, union, over}
use Rattle.gf2.specs.Span.{select}
use Rattle.gf2.specs.Within.{lowest, clear, within}
use Rattle.gf2.proofs.Elimination.{within-nil, within-kept, within_dropped}
use Rattle.gf2.proofs.Unions.{∪-zero, ∪_assoc}

-- ---- select: the XOR of the rows so far

-- a turn of a loop that sums
pub over-step : (n S : ℕ) (f : ℕ → ℕ) (sum v : ℕ) → sum ≡ over n S f → v ≡ (if has S n then f n else 0) → bit_xor sum v ≡ over (n + 1) S f
unfolding over
over-step n S f sum v e q = rw (e, q, add-one)

-- the end of the loop that selects
pub select_end : (n : ℕ) (bs : List ℕ) (x word : ℕ) → word ≡ over n x (λ i. get_or bs i 0) → n ≡ length bs → word ≡ select bs x
unfolding select
select_end n bs x word e q = e ∙ ap (λ (k : ℕ). over k x (λ i. get_or bs i 0)) q

-- ---- within: the rows left so far, and what `within` makes of the rows still to come, are what it makes of all

-- rows i .. n - 1
abbrev pub coming : ℕ → ℕ → List ℕ → List ℕ
coming i n rows = drop i (take n rows)

pub coming-cons : (i n : ℕ) (rows : List ℕ) → i < n → n ≤ length rows → coming i n rows ≡ get_or rows i 0 ∷ coming (suc i) n rows
coming-cons i n rows h l =
    drop-cons (take n rows) i 0 (rw (length-take-le n rows l) h) ∙ ap (λ (b : ℕ). b ∷ coming (suc i) n rows) (get_or-take n rows i 0 h)

pub coming-none : (n : ℕ) (rows : List ℕ) → n ≤ length rows → coming n n rows ≡ []
coming-none n rows l = drop_of_length-le (take n rows) {i = n} (omega (arith, length-take-le n rows l))

coming-map : (f : ℕ → ℕ) (i n : ℕ) (rows : List ℕ) → coming i n (map f rows) ≡ map f (coming i n rows)
coming-map f zero zero rows = refl
coming-map f zero (suc n) [] = refl
coming-map f zero (suc n) (b ∷ rows) = ap (λ (l : List ℕ). f b ∷ l) (coming-map f zero n rows)
coming-map f (suc i) zero rows = refl
coming-map f (suc i) (suc n) [] = refl
coming-map f (suc i) (suc n) (b ∷ rows) = coming-map f i n rows

-- all that the loop is to leave, where it has left `count` rows and stands at row i
unfoldable pub whole : ℕ → ℕ → ℕ → List ℕ → List ℕ → ℕ → List ℕ
whole S n i rows left count = take count left ++ within S (coming i n rows)

pub whole-start : (S n : ℕ) (rows left : List ℕ) → whole S n 0 rows left 0 ≡ within S (take n rows)
unfolding whole
whole-start S n rows left = refl

module _ (S n i : ℕ) (rows left : List ℕ) (count : ℕ) (h : i < n) (l : n ≤ length rows) where
  pub whole-kept : count < length left → T (get_or rows i 0 ⊆ S)
      → whole S n (i + 1) rows (set left count (get_or rows i 0)) (count + 1) ≡ whole S n i rows left count
  unfolding whole
  whole-kept k t =
      rw (add-one i, add-one count, take-suc-set left count (get_or rows i 0) k)
      (append_snoc (take count left) (get_or rows i 0) (within S (coming (suc i) n rows))
      ∙ ap (λ (r : List ℕ). take count left ++ r)
      (sym (ap (within S) (coming-cons i n rows h l) ∙ within-kept S (get_or rows i 0) (coming (suc i) n rows) t)))

  pub whole_dropped : (T (get_or rows i 0 ⊆ S) → ⊥)
      → whole S n (i + 1) (map (clear (lowest (get_or rows i 0 ∖ S)) (get_or rows i 0)) rows) left count ≡ whole S n i rows left count
  unfolding whole
  whole_dropped f =
      let b = get_or rows i 0 in
      rw add-one
      (ap (λ (r : List ℕ). take count left ++ r)
      (ap (within S) (coming-map (clear (lowest (b ∖ S)) b) (suc i) n rows)
      ∙ sym (ap (within S) (coming-cons i n rows h l) ∙ within_dropped S b (coming (suc i) n rows) f)))

pub whole_end : (S n : ℕ) (rows left : List ℕ) (count : ℕ) → n ≤ length rows → whole S n n rows left count ≡ take count left
unfolding whole
whole_end S n rows left count l =
    ap (λ (r : List ℕ). take count left ++ r) (ap (within S) (coming-none n rows l) ∙ within-nil S) ∙ append-nil (take count left)

-- ---- union: the disks held so far, and those of the words still to come, are those of all

pub held_more : (words : List ℕ) (i held : ℕ) → i < length words
    → bit_or held (get_or words i 0) ∪ union (drop (i + 1) words) ≡ held ∪ union (drop i words)
unfolding union
held_more words i held h =
    rw add-one
    (∪_assoc held (get_or words i 0) (union (drop (suc i) words)) ∙ ap (λ (bs : List ℕ). held ∪ union bs) (sym (drop-cons words i 0 h)))

pub held_end : (words : List ℕ) (i held : ℕ) → length words ≤ i → held ∪ union (drop i words) ≡ held
unfolding union
held_end words i held l = ap (λ (bs : List ℕ). held ∪ union bs) (drop_of_length-le words {i = i} l) ∙ ∪-zero held
