-- Texts made of a piece for each number of a list: how long they are, and the piece that the next number adds.
-- Assumes nothing.
use mathlib.Core.Path.{◌≡◌, refl, sym, ap, ◌∙◌}
use mathlib.Core.List.{List, [], ◌∷◌, ◌++◌, append_assoc, append-nil}
use Prim.Native.Nat.{ℕ, ◌+◌, ◌*◌, ◌≤◌, ◌<◌}
use native.Mathlib.Nat.{mul-suc}
use native.Mathlib.Numerals.{add-one}
use native.Mathlib.Omega.{arith}
use lib.ListN.{length, get_or, take, length-append}
use lib.Seq.{take-suc}
use Rattle.flat.specs.Lists.{each}
use Rattle.flat.proofs.Members.{In, in_head, in_tail}

module _ (f : ℕ → List ℕ) where
  pub each_append : (xs ys : List ℕ) → each f (xs ++ ys) ≡ each f xs ++ each f ys
  unfolding each
  each_append [] ys = refl
  each_append (x ∷ xs) ys = ap (λ (l : List ℕ). f x ++ l) (each_append xs ys) ∙ sym (append_assoc (f x) (each f xs) (each f ys))

  each-one : (x : ℕ) → each f (x ∷ []) ≡ f x
  unfolding each
  each-one x = append-nil (f x)

  pub each_none : each f [] ≡ []
  unfolding each
  each_none = refl

  -- pieces of at most b bytes
  pub each-most : (b : ℕ) (xs : List ℕ) → ((x : ℕ) → In x xs → length (f x) ≤ b) → length (each f xs) ≤ b * length xs
  unfolding each
  each-most b [] h = omega arith
  each-most b (x ∷ xs) h =
      omega (
        arith,
        h x (in_head xs refl),
        each-most b xs (λ y t. h y (in_tail y x xs t)),
        length-append (f x) (each f xs),
        mul-suc b (length xs),
      )

  module _ (xs : List ℕ) (i : ℕ) (h : i < length xs) where
    pub each_more : each f (take (i + 1) xs) ≡ each f (take i xs) ++ f (get_or xs i 0)
    each_more =
        ap (λ (n : ℕ). each f (take n xs)) (add-one i)
        ∙ ap (each f) (take-suc xs i 0 h)
        ∙ each_append (take i xs) (get_or xs i 0 ∷ [])
        ∙ ap (λ (l : List ℕ). each f (take i xs) ++ l) (each-one (get_or xs i 0))

    pub length_more : length (each f (take (i + 1) xs)) ≡ length (each f (take i xs)) + length (f (get_or xs i 0))
    length_more = ap length each_more ∙ length-append (each f (take i xs)) (f (get_or xs i 0))
