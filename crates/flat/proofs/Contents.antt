-- The contents are the lists of N bytes, and a filtered list's first entry is one of them that passes.
-- Assumes nothing.
use mathlib.Core.Path.{◌≡◌, refl, sym, ap, ap₂, ◌∙◌, subst}
use mathlib.Core.Bool.{Bool, true, false}
use mathlib.Core.Logic.{◌⊎◌, inl, inr, ◌≢◌, ⊎_elim}
use mathlib.Core.List.{List, [], ◌∷◌, ◌++◌, map}
use Prim.Native.Nat.{ℕ, zero, suc, ◌<◌}
use native.Mathlib.Omega.{arith}
use lib.Dec.{T}
use lib.ListN.{length}
use Rattle.std.specs.Prelude.{if◌then◌else◌}
use Rattle.flat.specs.Lists.{Bytes, range, filter, each}
use Rattle.flat.specs.Rebuilding.{contents}
use Rattle.flat.proofs.Members as numbers

-- c is among the lists
abbrev pub Among : List ℕ → List (List ℕ) → Type 0
Among c [] = ⊥
Among c (d ∷ ds) = (c ≡ d) ⊎ Among c ds

-- ---- joined and mapped

left_in : (c : List ℕ) (xs ys : List (List ℕ)) → Among c xs → Among c (xs ++ ys)
left_in c [] ys h = absurd h
left_in c (y ∷ xs) ys (inl e) = inl e
left_in c (y ∷ xs) ys (inr h) = inr (left_in c xs ys h)

right_in : (c : List ℕ) (xs ys : List (List ℕ)) → Among c ys → Among c (xs ++ ys)
right_in c [] ys h = h
right_in c (y ∷ xs) ys h = inr (right_in c xs ys h)

append_out : (c : List ℕ) (xs ys : List (List ℕ)) → Among c (xs ++ ys) → Among c xs ⊎ Among c ys
append_out c [] ys h = inr h
append_out c (y ∷ xs) ys (inl e) = inl (inl e)
append_out c (y ∷ xs) ys (inr h) = ⊎_elim (λ a. inl (inr a)) inr (append_out c xs ys h)

each_in : (c : List ℕ) (f : ℕ → List (List ℕ)) (i : ℕ) (xs : List ℕ) → numbers.In i xs → Among c (f i) → Among c (each f xs)
unfolding each
each_in c f i [] h t = absurd (numbers.in_nil i h)
each_in c f i (j ∷ xs) h t =
    ⊎_elim (λ e. left_in c (f j) (each f xs) (subst (λ (v : ℕ). Among c (f v)) e t)) (λ u. right_in c (f j) (each f xs) (each_in c f i xs u t))
    (numbers.in_cons i j xs h)

each_out : (c : List ℕ) (f : ℕ → List (List ℕ)) (xs : List ℕ) → Among c (each f xs) → (i : ℕ) × numbers.In i xs × Among c (f i)
unfolding each
each_out c f [] h = absurd h
each_out c f (i ∷ xs) h =
    ⊎_elim (λ a. (i, numbers.in_head xs refl, a)) (λ b. let r = each_out c f xs b in (r.0, numbers.in_tail r.0 i xs r.1, r.2))
    (append_out c (f i) (each f xs) h)

map_in : (b : ℕ) (c : List ℕ) (ws : List (List ℕ)) → Among c ws → Among (b ∷ c) (map (λ w. b ∷ w) ws)
map_in b c [] h = absurd h
map_in b c (w ∷ ws) (inl e) = inl (ap (λ (l : List ℕ). b ∷ l) e)
map_in b c (w ∷ ws) (inr h) = inr (map_in b c ws h)

map_out : (b : ℕ) (c : List ℕ) (ws : List (List ℕ)) → Among c (map (λ w. b ∷ w) ws) → (w : List ℕ) × Among w ws × (c ≡ b ∷ w)
map_out b c [] h = absurd h
map_out b c (w ∷ ws) (inl e) = (w, inl refl, e)
map_out b c (w ∷ ws) (inr h) = let r = map_out b c ws h in (r.0, inr r.1, r.2)

-- ---- every list of N bytes

bytes-cons : (b : ℕ) (c : List ℕ) → b < 256 → Bytes c → Bytes (b ∷ c)
bytes-cons b c l h zero = l
bytes-cons b c l h (suc i) = h i

bytes-nil : Bytes []
bytes-nil zero = omega arith
bytes-nil (suc i) = omega arith

pub contents_in : (N : ℕ) (c : List ℕ) → length c ≡ N → Bytes c → Among c (contents N)
unfolding contents
contents_in zero [] e h = inl refl
contents_in zero (b ∷ c) e h = absurd (omega arith)
contents_in (suc N) [] e h = absurd (omega arith)
contents_in (suc N) (b ∷ c) e h =
    each_in (b ∷ c) (λ x. map (λ w. x ∷ w) (contents N)) b (range 0 256) (numbers.range_in 0 256 b (omega arith) (omega (arith, h 0)))
    (map_in b c (contents N) (contents_in N c (omega arith) (λ i. h (suc i))))

pub contents_out : (N : ℕ) (c : List ℕ) → Among c (contents N) → (length c ≡ N) × Bytes c
unfolding contents
contents_out zero c (inl e) = (ap length e, subst Bytes (sym e) bytes-nil)
contents_out zero c (inr h) = absurd h
contents_out (suc N) c h =
    let a = each_out c (λ x. map (λ w. x ∷ w) (contents N)) (range 0 256) h in
    let r = map_out a.0 c (contents N) a.2 in
    let s = contents_out N r.0 r.1 in
    let l = numbers.range_out 0 256 a.0 a.1 in
    (ap length r.2 ∙ ap suc s.0, subst Bytes (sym r.2) (bytes-cons a.0 r.0 (omega (arith, l.1)) s.1))

-- ---- those that pass a test

pub filter-some : (p : List ℕ → Bool) (cs : List (List ℕ)) (c : List ℕ) → Among c cs → T (p c) → filter p cs ≢ []
unfolding filter
filter-some p [] c h t e = absurd h
filter-some p (d ∷ cs) c h t e = go (p d) (λ u. u) h (filter-some p cs c) e
  where
    go : (b : Bool) → (T (p d) → T b) → (c ≡ d) ⊎ Among c cs → (Among c cs → T (p c) → filter p cs ≢ [])
        → (if b then d ∷ filter p cs else filter p cs) ≢ []
    go true f i rest q = let z : ◌≡◌ {A = ℕ} 1 0 = cc in absurd (omega arith)
    go false f (inl y) rest q = absurd (f (subst (λ (x : List ℕ). T (p x)) y t))
    go false f (inr i) rest q = rest i t q

pub filter-first : (p : List ℕ → Bool) (cs : List (List ℕ)) (d : List ℕ) (ds : List (List ℕ)) → filter p cs ≡ d ∷ ds → Among d cs × T (p d)
unfolding filter
filter-first p [] d ds e = let z : ◌≡◌ {A = ℕ} 1 0 = cc in absurd (omega arith)
filter-first p (c ∷ cs) d ds e = go (p c) (λ t. t) (filter-first p cs d ds) e
  where
    go : (b : Bool) → (T b → T (p c)) → (filter p cs ≡ d ∷ ds → Among d cs × T (p d)) → (if b then c ∷ filter p cs else filter p cs) ≡ d ∷ ds
        → Among d (c ∷ cs) × T (p d)
    go true f rest q = let z : c ≡ d = cc in (inl (sym z), subst (λ (x : List ℕ). T (p x)) z (f tt))
    go false f rest q = let r = rest q in (inr r.0, r.1)

pub filter_cong : (p q : List ℕ → Bool) (cs : List (List ℕ)) → ((c : List ℕ) → p c ≡ q c) → filter p cs ≡ filter q cs
unfolding filter
filter_cong p q [] e = refl
filter_cong p q (c ∷ cs) e = ap₂ (λ (b : Bool) (l : List (List ℕ)). if b then c ∷ l else l) (e c) (filter_cong p q cs e)
