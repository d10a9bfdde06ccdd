-- Members of lists that are filtered, mapped, joined or ordered by a key.
-- Assumes nothing.
use mathlib.Core.Path.{◌≡◌, refl, sym, ap, ◌∙◌, subst}
use mathlib.Core.Bool.{Bool, true, false}
use mathlib.Core.Logic.{◌⊎◌, inl, inr, ⊎_elim}
use mathlib.Core.List.{List, [], ◌∷◌, ◌++◌, map}
use Prim.Native.Nat.{ℕ, zero, suc, ◌+◌, ◌≤◌, ◌<◌}
use native.Mathlib.Omega.{arith}
use lib.Arith.{lt_of_le-ne}
use lib.Dec.{T, eqb, eqb_refl}
use lib.ListN.{length, get_or}
use Rattle.std.specs.Prelude.{if◌then◌else◌}
use Rattle.gf2.proofs.Tests.{dec, eqb_in, eqb_out, unless_in, unless_out}
use Rattle.flat.specs.Lists.{member, range, filter, each, ordered_by}

-- x is in the list
abbrev pub In : ℕ → List ℕ → Type 0
In x xs = T (member x xs)

pub in_head : {x y : ℕ} (ys : List ℕ) → x ≡ y → In x (y ∷ ys)
unfolding member
in_head {x} {y} ys e = unless_in (eqb x y) (member x ys) (λ f. absurd (f (eqb_in e)))

pub in_tail : (x y : ℕ) (ys : List ℕ) → In x ys → In x (y ∷ ys)
unfolding member
in_tail x y ys t = unless_in (eqb x y) (member x ys) (λ f. t)

pub in_cons : (x y : ℕ) (ys : List ℕ) → In x (y ∷ ys) → (x ≡ y) ⊎ In x ys
unfolding member
in_cons x y ys t = ⊎_elim (λ u. inl (eqb_out x y u)) (λ f. inr (unless_out (eqb x y) (member x ys) t f)) (dec (eqb x y))

pub in_nil : (x : ℕ) → In x [] → ⊥
unfolding member
in_nil x t = t

pub in_at : (xs : List ℕ) (i : ℕ) → i < length xs → In (get_or xs i 0) xs
in_at [] i l = absurd (omega arith)
in_at (x ∷ xs) zero l = in_head xs refl
in_at (x ∷ xs) (suc i) l = in_tail (get_or xs i 0) x xs (in_at xs i (omega arith))

-- a member stands at some place
pub in_place : (x : ℕ) (xs : List ℕ) → In x xs → (i : ℕ) × (i < length xs) × (get_or xs i 0 ≡ x)
in_place x [] t = absurd (in_nil x t)
in_place x (y ∷ ys) t =
    ⊎_elim (λ e. (0, omega arith, sym e)) (λ u. let p = in_place x ys u in (suc p.0, let l = p.1 in omega arith, p.2)) (in_cons x y ys t)

-- ---- joined lists

pub in_left : (x : ℕ) (xs ys : List ℕ) → In x xs → In x (xs ++ ys)
in_left x [] ys t = absurd (in_nil x t)
in_left x (y ∷ xs) ys t = ⊎_elim (λ e. in_head (xs ++ ys) e) (λ u. in_tail x y (xs ++ ys) (in_left x xs ys u)) (in_cons x y xs t)

pub in_right : (x : ℕ) (xs ys : List ℕ) → In x ys → In x (xs ++ ys)
in_right x [] ys t = t
in_right x (y ∷ xs) ys t = in_tail x y (xs ++ ys) (in_right x xs ys t)

pub in_append : (x : ℕ) (xs ys : List ℕ) → In x (xs ++ ys) → In x xs ⊎ In x ys
in_append x [] ys t = inr t
in_append x (y ∷ xs) ys t =
    ⊎_elim (λ e. inl (in_head xs e)) (λ u. ⊎_elim (λ a. inl (in_tail x y xs a)) inr (in_append x xs ys u)) (in_cons x y (xs ++ ys) t)

pub each_in : (x v : ℕ) (f : ℕ → List ℕ) (vs : List ℕ) → In v vs → In x (f v) → In x (each f vs)
unfolding each
each_in x v f [] t u = absurd (in_nil v t)
each_in x v f (w ∷ vs) t u =
    ⊎_elim (λ e. in_left x (f w) (each f vs) (subst (λ (y : ℕ). In x (f y)) e u)) (λ a. in_right x (f w) (each f vs) (each_in x v f vs a u)) (in_cons v w vs t)

pub each_out : (x : ℕ) (f : ℕ → List ℕ) (vs : List ℕ) → In x (each f vs) → (v : ℕ) × In v vs × In x (f v)
unfolding each
each_out x f [] t = absurd (in_nil x t)
each_out x f (w ∷ vs) t =
    ⊎_elim (λ a. (w, in_head vs refl, a)) (λ a. let r = each_out x f vs a in (r.0, in_tail r.0 w vs r.1, r.2)) (in_append x (f w) (each f vs) t)

-- ---- ranges

pub range_in : (a n x : ℕ) → a ≤ x → x < a + n → In x (range a n)
unfolding range
range_in a zero x l h = absurd (omega arith)
range_in a (suc n) x l h =
    ⊎_elim (λ t. in_head (range (suc a) n) (eqb_out x a t))
    (λ f. in_tail x a (range (suc a) n) (range_in (suc a) n x (lt_of_le-ne l (λ e. f (eqb_in (sym e)))) (omega arith)))
    (dec (eqb x a))

pub range_out : (a n x : ℕ) → In x (range a n) → (a ≤ x) × (x < a + n)
unfolding range
range_out a zero x t = absurd (in_nil x t)
range_out a (suc n) x t =
    ⊎_elim (λ e. (omega arith, omega arith)) (λ u. let r = range_out (suc a) n x u in (omega arith, omega arith)) (in_cons x a (range (suc a) n) t)

-- ---- chosen and mapped

pub filter_in : (p : ℕ → Bool) (x : ℕ) (xs : List ℕ) → T (p x) → In x xs → In x (filter p xs)
unfolding filter
filter_in p x [] u t = t
filter_in p x (y ∷ xs) u t = go (p y) refl (in_cons x y xs t) (filter_in p x xs u)
  where
    go : (b : Bool) → p y ≡ b → (x ≡ y) ⊎ In x xs → (In x xs → In x (filter p xs)) → In x (if b then y ∷ filter p xs else filter p xs)
    go true e (inl q) rest = in_head (filter p xs) q
    go true e (inr a) rest = in_tail x y (filter p xs) (rest a)
    go false e (inl q) rest = absurd (subst T (ap p q ∙ e) u)
    go false e (inr a) rest = rest a

pub filter_out : (p : ℕ → Bool) (x : ℕ) (xs : List ℕ) → In x (filter p xs) → T (p x) × In x xs
unfolding filter
filter_out p x [] t = absurd (in_nil x t)
filter_out p x (y ∷ xs) t = go (p y) refl t (filter_out p x xs)
  where
    go : (b : Bool) → p y ≡ b → In x (if b then y ∷ filter p xs else filter p xs) → (In x (filter p xs) → T (p x) × In x xs) → T (p x) × In x (y ∷ xs)
    go true e u rest =
        ⊎_elim (λ q. (subst T (sym (ap p q ∙ e)) tt, in_head xs q)) (λ a. let r = rest a in (r.0, in_tail x y xs r.1)) (in_cons x y (filter p xs) u)
    go false e u rest = let r = rest u in (r.0, in_tail x y xs r.1)

pub map_in : (f : ℕ → ℕ) (x : ℕ) (xs : List ℕ) → In x xs → In (f x) (map f xs)
map_in f x [] t = absurd (in_nil x t)
map_in f x (y ∷ xs) t = ⊎_elim (λ e. in_head (map f xs) (ap f e)) (λ a. in_tail (f x) (f y) (map f xs) (map_in f x xs a)) (in_cons x y xs t)

pub map_out : (f : ℕ → ℕ) (y : ℕ) (xs : List ℕ) → In y (map f xs) → (x : ℕ) × In x xs × (f x ≡ y)
map_out f y [] t = absurd (in_nil y t)
map_out f y (x ∷ xs) t =
    ⊎_elim (λ e. (x, in_head xs refl, sym e)) (λ a. let r = map_out f y xs a in (r.0, in_tail r.0 x xs r.1, r.2)) (in_cons y (f x) (map f xs) t)

-- ---- ordered by a key

pub ordered_in : (key : ℕ → ℕ) (b x : ℕ) (xs : List ℕ) → key x < b → In x xs → In x (ordered_by key b xs)
unfolding ordered_by
ordered_in key b x xs l t =
    each_in x (key x) (λ v. filter (λ y. eqb (key y) v) xs) (range 0 b) (range_in 0 b (key x) (omega arith) (omega arith))
    (filter_in (λ y. eqb (key y) (key x)) x xs (eqb_refl (key x)) t)

pub ordered_out : (key : ℕ → ℕ) (b x : ℕ) (xs : List ℕ) → In x (ordered_by key b xs) → (key x < b) × In x xs
unfolding ordered_by
ordered_out key b x xs t =
    let r = each_out x (λ v. filter (λ y. eqb (key y) v) xs) (range 0 b) t in
    let q = filter_out (λ y. eqb (key y) r.0) x xs r.2 in
    let e : key x ≡ r.0 = eqb_out (key x) r.0 q.0 in
    let l = range_out 0 b r.0 r.1 in
    (omega arith, q.1)
