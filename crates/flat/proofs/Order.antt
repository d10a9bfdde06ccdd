-- Lists in strict order: what keeps the order, what ordering by a key does, and that order and members tell the list.
-- Assumes nothing.
use mathlib.Core.Path.{◌≡◌, refl, sym, ap₂, ◌∙◌, subst}
use mathlib.Core.Bool.{Bool, true, false}
use mathlib.Core.Logic.{◌⊎◌, inl, inr, ⊎_elim}
use mathlib.Core.List.{List, [], ◌∷◌, ◌++◌, map}
use Prim.Native.Nat.{ℕ, zero, suc, ◌<◌}
use native.Mathlib.Omega.{arith}
use lib.Dec.{eqb}
use lib.ListN.{length, get_or}
use Rattle.std.specs.Prelude.{if◌then◌else◌}
use Rattle.gf2.proofs.Tests.{eqb_out}
use Rattle.flat.specs.Lists.{range, filter, each, ordered_by}
use Rattle.flat.proofs.Members.{In, in_head, in_tail, in_cons, in_nil, in_at, in_place, in_append, each_out, range_out, filter_out, map_out}

abbrev pub Rel : Type 1
Rel = ℕ → ℕ → Type 0

-- each entry stands in R to every later one
abbrev pub Sorted : Rel → List ℕ → Type 0
Sorted R [] = Unit {0}
Sorted R (x ∷ xs) = ((y : ℕ) → In y xs → R x y) × Sorted R xs

-- by a key, and where that is equal, by R
abbrev pub Lex : (ℕ → ℕ) → Rel → Rel
Lex key R x y = (key x < key y) ⊎ ((key x ≡ key y) × R x y)

pub sorted_at : (R : Rel) (xs : List ℕ) → Sorted R xs → (i j : ℕ) → i < j → j < length xs → R (get_or xs i 0) (get_or xs j 0)
sorted_at R [] s i j l h = absurd (omega arith)
sorted_at R (x ∷ xs) s i zero l h = absurd (omega arith)
sorted_at R (x ∷ xs) s zero (suc j) l h = s.0 (get_or xs j 0) (in_at xs j (omega arith))
sorted_at R (x ∷ xs) s (suc i) (suc j) l h = sorted_at R xs s.1 i j (omega arith) (omega arith)

pub sorted_from : (R : Rel) (xs : List ℕ) → ((i j : ℕ) → i < j → j < length xs → R (get_or xs i 0) (get_or xs j 0)) → Sorted R xs
sorted_from R [] h = tt
sorted_from R (x ∷ xs) h = (
  λ y t. let p = in_place y xs t in let l = p.1 in subst (R x) p.2 (h 0 (suc p.0) (omega arith) (omega arith)),
  sorted_from R xs (λ i j l m. h (suc i) (suc j) (omega arith) (omega arith)),
)

-- another relation between members, and a mapping that carries one to the other
pub sorted_map : (Q R : Rel) (f : ℕ → ℕ) (xs : List ℕ) → ((x y : ℕ) → In x xs → In y xs → Q x y → R (f x) (f y)) → Sorted Q xs → Sorted R (map f xs)
sorted_map Q R f [] h s = tt
sorted_map Q R f (x ∷ xs) h s = (
  λ z t. let r = map_out f z xs t in
      subst (R (f x)) r.2 (h x r.0 (in_head xs refl) (in_tail r.0 x xs r.1) (s.0 r.0 r.1)),
  sorted_map Q R f xs (λ y z a b q. h y z (in_tail y x xs a) (in_tail z x xs b) q) s.1,
)

pub sorted_weaken : (Q R : Rel) (xs : List ℕ) → ((x y : ℕ) → In x xs → In y xs → Q x y → R x y) → Sorted Q xs → Sorted R xs
sorted_weaken Q R [] h s = tt
sorted_weaken Q R (x ∷ xs) h s = (
  λ y t. h x y (in_head xs refl) (in_tail y x xs t) (s.0 y t),
  sorted_weaken Q R xs (λ y z a b q. h y z (in_tail y x xs a) (in_tail z x xs b) q) s.1,
)

pub sorted_filter : (R : Rel) (p : ℕ → Bool) (xs : List ℕ) → Sorted R xs → Sorted R (filter p xs)
unfolding filter
sorted_filter R p [] s = tt
sorted_filter R p (x ∷ xs) s = go (p x) (sorted_filter R p xs s.1)
  where
    go : (b : Bool) → Sorted R (filter p xs) → Sorted R (if b then x ∷ filter p xs else filter p xs)
    go true t = (λ y u. s.0 y (filter_out p y xs u).1, t)
    go false t = t

sorted_append : (R : Rel) (xs ys : List ℕ) → Sorted R xs → Sorted R ys → ((x y : ℕ) → In x xs → In y ys → R x y) → Sorted R (xs ++ ys)
sorted_append R [] ys s t h = t
sorted_append R (x ∷ xs) ys s t h = (
  λ y u. ⊎_elim (s.0 y) (h x y (in_head xs refl)) (in_append y xs ys u),
  sorted_append R xs ys s.1 t (λ z y a b. h z y (in_tail z x xs a) b),
)

pub sorted_range : (a n : ℕ) → Sorted (λ x y. x < y) (range a n)
unfolding range
sorted_range a zero = tt
sorted_range a (suc n) = (λ y t. let r = range_out (suc a) n y t in omega arith, sorted_range (suc a) n)

-- ordering by a key keeps the order among equal keys
module _ (R : Rel) (key : ℕ → ℕ) (xs : List ℕ) (s : Sorted R xs) where
  abbrev block : ℕ → List ℕ
  block v = filter (λ x. eqb (key x) v) xs

  in_block : (v x : ℕ) → In x (block v) → key x ≡ v
  in_block v x t = eqb_out (key x) v (filter_out (λ y. eqb (key y) v) x xs t).0

  blocks : (a n : ℕ) → Sorted (Lex key R) (each block (range a n))
  unfolding each range
  blocks a zero = tt
  blocks a (suc n) =
      sorted_append (Lex key R) (block a) (each block (range (suc a) n))
      (sorted_weaken R (Lex key R) (block a) (λ x y t u r. inr (in_block a x t ∙ sym (in_block a y u), r)) (sorted_filter R (λ x. eqb (key x) a) xs s))
      (blocks (suc a) n)
      (λ x y t u. let v = each_out y block (range (suc a) n) u in
      let e = in_block a x t in
      let f = in_block v.0 y v.2 in
      let l = range_out (suc a) n v.0 v.1 in
      inl (omega arith))

  pub sorted_ordered : (b : ℕ) → Sorted (Lex key R) (ordered_by key b xs)
  unfolding ordered_by
  sorted_ordered b = blocks 0 b

-- ---- order and members tell the list

pub sorted_unique : (R : Rel) → ((x y : ℕ) → R x y → R y x → ⊥) → (xs ys : List ℕ) → Sorted R xs → Sorted R ys
    → ((x : ℕ) → In x xs → In x ys) → ((x : ℕ) → In x ys → In x xs) → xs ≡ ys
sorted_unique R asym [] [] s t f g = refl
sorted_unique R asym [] (y ∷ ys) s t f g = absurd (in_nil y (g y (in_head ys refl)))
sorted_unique R asym (x ∷ xs) [] s t f g = absurd (in_nil x (f x (in_head xs refl)))
sorted_unique R asym (x ∷ xs) (y ∷ ys) s t f g =
    ap₂ ◌∷◌ same
    (sorted_unique R asym xs ys s.1 t.1
    (λ z u. ⊎_elim (λ e. absurd (self x (subst (R x) (e ∙ sym same) (s.0 z u)))) (λ v. v) (in_cons z y ys (f z (in_tail z x xs u))))
    (λ z u. ⊎_elim (λ e. absurd (self y (subst (R y) (e ∙ same) (t.0 z u)))) (λ v. v) (in_cons z x xs (g z (in_tail z y ys u)))))
  where
    self : (z : ℕ) → R z z → ⊥
    self z r = asym z z r r

    same : x ≡ y
    same =
        ⊎_elim (λ e. e)
        (λ u. ⊎_elim (λ e. sym e) (λ v. absurd (asym x y (s.0 y v) (t.0 x u))) (in_cons y x xs (g y (in_head ys refl))))
        (in_cons x y ys (f x (in_head xs refl)))

pub lex_asym : (key : ℕ → ℕ) (R : Rel) → ((x y : ℕ) → R x y → R y x → ⊥) → (x y : ℕ) → Lex key R x y → Lex key R y x → ⊥
lex_asym key R asym x y (inl a) (inl b) = omega arith
lex_asym key R asym x y (inl a) (inr b) = let e = b.0 in omega arith
lex_asym key R asym x y (inr a) (inl b) = let e = a.0 in omega arith
lex_asym key R asym x y (inr a) (inr b) = asym x y a.1 b.1

pub lt_asym : (x y : ℕ) → x < y → y < x → ⊥
lt_asym x y a b = omega arith
