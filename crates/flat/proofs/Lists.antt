-- Laws of the words that the definitions are written in: tables, padded lists, runs put into a list, and numbers in bytes.
-- Assumes nothing.
use mathlib.Core.Path.{◌≡◌, refl, sym, ap, ap₂, ◌∙◌, subst}
use mathlib.Core.Bool.{Bool, true, false, ◌&&◌}
use mathlib.Core.Logic.{◌⊎◌, inl, inr}
use mathlib.Core.List.{List, [], ◌∷◌, ◌++◌, map, append_assoc, append-nil}
use Prim.Native.Nat.{ℕ, zero, suc, ◌+◌, ◌-◌, ◌*◌, ◌≤◌, ◌<◌}
use native.Mathlib.Nat.{not-suc-le-zero, add-zero}
use native.Mathlib.Omega.{arith}
use native.Mathlib.Numerals.{add-one}
use borrow.Author.Tests.{lt-ltb, le-ltb}
use lib.Dec.{ltb}
use lib.ListN.{length, get_or, take, drop, set, replicate, length-append, length-drop, length-replicate, length-take, drop_of_length-le, get_or-append, get_or-eq_default}
use lib.Seq.{take_at, set_at, append_snoc, get_or-append-add, ext_get_or, get_or-take, get_or-drop, length-take-le, drop-append-add, drop-drop, paste, paste-zero, take_all}
use Rattle.std.specs.Prelude.{if◌then◌else◌}
use Rattle.gf2.proofs.Tests.{below_or}
use Rattle.flat.specs.Lists.{range, tabulate, padded, put, field, Bytes}

-- the bytes from n on, as code lends them
pub rest : (n : ℕ) (l : List ℕ) → take (length l - n) (drop n l) ≡ drop n l
rest n l = take_all (length l - n) (drop n l) (omega (arith, length-drop n l))

-- ---- tables

pub length-tabulate : (n : ℕ) (f : ℕ → ℕ) → length (tabulate n f) ≡ n
unfolding tabulate
length-tabulate zero f = refl
length-tabulate (suc n) f = ap suc (length-tabulate n (λ i. f (suc i)))

pub get_d_tabulate : (n : ℕ) (f : ℕ → ℕ) (i : ℕ) → i < n → get_or (tabulate n f) i 0 ≡ f i
unfolding tabulate
get_d_tabulate zero f i h = absurd (not-suc-le-zero h)
get_d_tabulate (suc n) f zero h = refl
get_d_tabulate (suc n) f (suc i) h = get_d_tabulate n (λ j. f (suc j)) i (omega arith)

pub tabulate_cong : (n : ℕ) (f g : ℕ → ℕ) → ((i : ℕ) → i < n → f i ≡ g i) → tabulate n f ≡ tabulate n g
unfolding tabulate
tabulate_cong zero f g e = refl
tabulate_cong (suc n) f g e =
    ap₂ ◌∷◌ (e 0 (omega arith)) (tabulate_cong n (λ i. f (suc i)) (λ i. g (suc i)) (λ i h. e (suc i) (omega arith)))

-- a table of one number
pub constant : (n v : ℕ) → replicate n v ≡ tabulate n (λ i. v)
unfolding tabulate
constant zero v = refl
constant (suc n) v = ap (λ (xs : List ℕ). v ∷ xs) (constant n v)

-- a list is the table of its entries
pub entries : (xs : List ℕ) → tabulate (length xs) (λ i. get_or xs i 0) ≡ xs
unfolding tabulate
entries [] = refl
entries (x ∷ xs) = ap (λ (ys : List ℕ). x ∷ ys) (entries xs)

-- a mapped range is a table
pub map_range : (f : ℕ → ℕ) (a n : ℕ) → map f (range a n) ≡ tabulate n (λ i. f (a + i))
unfolding range tabulate
map_range f a zero = refl
map_range f a (suc n) =
    ap₂ ◌∷◌ (ap f (sym (add-zero a)))
    (map_range f (suc a) n ∙ tabulate_cong n (λ i. f (suc a + i)) (λ i. f (a + suc i)) (λ i l. ap f (let e : suc a + i ≡ a + suc i = omega arith in e)))

-- an entry of a mapped list
pub entry-map : (f : ℕ → ℕ) (xs : List ℕ) (i : ℕ) → i < length xs → get_or (map f xs) i 0 ≡ f (get_or xs i 0)
entry-map f [] i l = absurd (not-suc-le-zero l)
entry-map f (x ∷ xs) zero l = refl
entry-map f (x ∷ xs) (suc i) l = entry-map f xs i (omega arith)

-- ---- padded lists

pub length-padded : (n : ℕ) (xs : List ℕ) → length xs ≤ n → length (padded n xs) ≡ n
unfolding padded
length-padded n xs h = length-append xs (replicate (n - length xs) 0) ∙ ap (λ (i : ℕ). length xs + i) (length-replicate (n - length xs) 0) ∙ omega arith

pub take-padded : (n m : ℕ) (xs : List ℕ) → length xs ≡ m → take m (padded n xs) ≡ xs
unfolding padded
take-padded n m xs e = take_at xs (replicate (n - length xs) 0) m e

-- an array of zeros that is filled from the front with a table
pub tabulate-more : (n : ℕ) (f : ℕ → ℕ) → tabulate (suc n) f ≡ tabulate n f ++ (f n ∷ [])
unfolding tabulate
tabulate-more zero f = refl
tabulate-more (suc n) f = ap (λ (l : List ℕ). f 0 ∷ l) (tabulate-more n (λ i. f (suc i)))

padded-more : (n j v : ℕ) (xs : List ℕ) → length xs ≡ j → j < n → set (padded n xs) j v ≡ padded n (xs ++ (v ∷ []))
unfolding padded
padded-more n j v xs e h =
    let before : n - length xs ≡ suc (n - suc j) = omega arith in
    let after : n - length (xs ++ (v ∷ [])) ≡ n - suc j = omega (arith, length-append xs (v ∷ [])) in
    rw (before, after, append_snoc) (set_at xs 0 (replicate (n - suc j) 0) v j e)

pub fill_none : (n : ℕ) (f : ℕ → ℕ) → replicate n 0 ≡ padded n (tabulate 0 f)
unfolding padded tabulate
fill_none n f = ap (λ (i : ℕ). replicate i 0) (let e : n ≡ n - 0 = omega arith in e)

pub fill_more : (n j v : ℕ) (f : ℕ → ℕ) (out : List ℕ) → j < n → out ≡ padded n (tabulate j f) → v ≡ f j
    → set out j v ≡ padded n (tabulate (j + 1) f)
fill_more n j v f out h o e =
    rw (o, e, add-one) (padded-more n j (f j) (tabulate j f) (length-tabulate j f) h ∙ ap (padded n) (sym (tabulate-more j f)))

pub get_d_zeros : (n i : ℕ) → ◌≡◌ {A = ℕ} (get_or (replicate n 0) i 0) 0
get_d_zeros zero i = refl
get_d_zeros (suc n) zero = refl
get_d_zeros (suc n) (suc i) = get_d_zeros n i

-- the list's entries, then zeros
pub get_d_padded : (n i : ℕ) (xs : List ℕ) → get_or (padded n xs) i 0 ≡ get_or xs i 0
unfolding padded
get_d_padded n i xs = go (below_or i (length xs))
  where
    zeros : List ℕ
    zeros = replicate (n - length xs) 0

    go : (i < length xs) ⊎ (length xs ≤ i) → get_or (xs ++ zeros) i 0 ≡ get_or xs i 0
    go (inl l) = get_or-append xs zeros 0 i l
    go (inr l) =
        let e : i ≡ length xs + (i - length xs) = omega arith in
        ap (λ (j : ℕ). get_or (xs ++ zeros) j 0) e ∙ get_or-append-add xs zeros (i - length xs) 0 ∙ get_d_zeros (n - length xs) (i - length xs)
        ∙ sym (get_or-eq_default xs 0 l)

-- what has been filled up to place j is a table with zeros from there on
pub fill_end : (n j : ℕ) (f : ℕ → ℕ) → j ≤ n → padded n (tabulate j f) ≡ tabulate n (λ i. if ltb i j then f i else 0)
fill_end n j f h =
    ext_get_or 0 (padded n (tabulate j f)) (tabulate n new) (len ∙ sym (length-tabulate n new))
    (λ i l. get_d_padded n i (tabulate j f) ∙ go i (below_or i j) ∙ sym (get_d_tabulate n new i (subst (λ (x : ℕ). i < x) len l)))
  where
    new : ℕ → ℕ
    new i = if ltb i j then f i else 0

    len : length (padded n (tabulate j f)) ≡ n
    len = length-padded n (tabulate j f) (rw (length-tabulate j f) h)

    go : (i : ℕ) → (i < j) ⊎ (j ≤ i) → get_or (tabulate j f) i 0 ≡ (if ltb i j then f i else 0)
    go i (inl l) = rw (lt-ltb i j l) (get_d_tabulate j f i l)
    go i (inr l) = rw (le-ltb i j l) (get_or-eq_default (tabulate j f) 0 (rw (length-tabulate j f) l))

-- the same with entries only at places of which p holds
pub table_end : (n j : ℕ) (p : ℕ → Bool) (f : ℕ → ℕ) → j ≤ n
    → padded n (tabulate j (λ i. if p i then f i else 0)) ≡ tabulate n (λ i. if ltb i j && p i then f i else 0)
table_end n j p f h =
    fill_end n j (λ i. if p i then f i else 0) h
    ∙ tabulate_cong n (λ i. if ltb i j then (if p i then f i else 0) else 0) (λ i. if ltb i j && p i then f i else 0)
    (λ i l. go (ltb i j) (p i) (f i))
  where
    go : (a b : Bool) (x : ℕ) → (if a then (if b then x else 0) else 0) ≡ (if a && b then x else 0)
    go true b x = refl
    go false b x = refl

-- the first entries of a table
pub take-table : (m n : ℕ) (f : ℕ → ℕ) → m ≤ n → take m (tabulate n f) ≡ tabulate m f
take-table m n f h =
    let l : length (take m (tabulate n f)) ≡ m = length-take-le m (tabulate n f) (omega (arith, length-tabulate n f)) in
    ext_get_or 0 (take m (tabulate n f)) (tabulate m f) (l ∙ sym (length-tabulate m f))
    (λ i t. let u : i < m = omega arith in get_or-take m (tabulate n f) i 0 u ∙ get_d_tabulate n f i (omega arith) ∙ sym (get_d_tabulate m f i u))

-- ---- runs put into a list

pub put-none : (s : List ℕ) (at : ℕ) → put s at [] ≡ s
unfolding put
put-none s at = sym (paste-zero s at [])

-- a run as long as the list takes its place
pub put_whole : (s new : List ℕ) → length new ≡ length s → put s 0 new ≡ new
unfolding put
put_whole s new n = ap (λ (l : List ℕ). new ++ l) (drop_of_length-le s (let l : length s ≤ 0 + length new = omega arith in l)) ∙ append-nil new

pub length-put : (s : List ℕ) (at : ℕ) (new : List ℕ) → at + length new ≤ length s → length (put s at new) ≡ length s
unfolding put
length-put s at new h =
    let a = length-append (take at s ++ new) (drop (at + length new) s) in
    let b = length-append (take at s) new in
    omega (arith, a, b, length-take-le at s (omega arith), length-drop (at + length new) s)

-- one run, and another right after it
pub put_next : (s : List ℕ) (at b : ℕ) (x y : List ℕ) → b ≡ at + length x → b ≤ length s → put (put s at x) b y ≡ put s at (x ++ y)
unfolding put
put_next s at b x y e h =
    let front : length (take at s ++ x) ≡ b = omega (arith, length-append (take at s) x, length-take-le at s (omega arith)) in
    let after : drop (b + length y) (take at s ++ x ++ drop (at + length x) s) ≡ drop (at + length (x ++ y)) s =
    ap (λ (n : ℕ). drop (n + length y) (take at s ++ x ++ drop (at + length x) s)) (sym front)
    ∙ drop-append-add (take at s ++ x) (drop (at + length x) s) (length y) ∙ drop-drop (length y) (at + length x) s
    ∙ ap (λ (n : ℕ). drop n s) (let q : at + length x + length y ≡ at + length (x ++ y) = omega (arith, length-append x y) in q) in
    ap₂ (λ (p q : List ℕ). p ++ y ++ q) (take_at (take at s ++ x) (drop (at + length x) s) b front) after
    ∙ ap (λ (p : List ℕ). p ++ drop (at + length (x ++ y)) s) (append_assoc (take at s) x y)

-- the kit's copy of the first n entries
pub paste-put : (s : List ℕ) (at : ℕ) (new : List ℕ) (n : ℕ) → n ≤ length new → paste s at new n ≡ put s at (take n new)
unfolding put
paste-put s at new n h = ap (λ (k : ℕ). take at s ++ take n new ++ drop (at + k) s) (sym (length-take-le n new h))

-- entry by entry
module _ (s : List ℕ) (at : ℕ) (new : List ℕ) (n : ℕ) (fits : at + n ≤ length s) (long : length new ≡ n) where
  head : length (take at s ++ new) ≡ at + n
  head = omega (arith, length-append (take at s) new, length-take-le at s (omega arith))

  pub put-before : (p : ℕ) → p < at → get_or (put s at new) p 0 ≡ get_or s p 0
  unfolding put
  put-before p h =
      get_or-append (take at s ++ new) (drop (at + length new) s) 0 p (omega (arith, head))
      ∙ get_or-append (take at s) new 0 p (omega (arith, length-take-le at s (omega arith))) ∙ get_or-take at s p 0 h

  pub put-new : (t : ℕ) → t < n → get_or (put s at new) (at + t) 0 ≡ get_or new t 0
  unfolding put
  put-new t h =
      get_or-append (take at s ++ new) (drop (at + length new) s) 0 (at + t) (omega (arith, head))
      ∙ ap (λ (x : ℕ). get_or (take at s ++ new) (x + t) 0) (sym (length-take-le at s (omega arith))) ∙ get_or-append-add (take at s) new t 0

  pub put-after : (p : ℕ) → at + n ≤ p → get_or (put s at new) p 0 ≡ get_or s p 0
  unfolding put
  put-after p h =
      let e : p ≡ at + length new + (p - (at + length new)) = omega arith in
      ap (λ (x : ℕ). get_or (put s at new) x 0) (let q : p ≡ length (take at s ++ new) + (p - (at + length new)) = omega (arith, head) in q)
      ∙ get_or-append-add (take at s ++ new) (drop (at + length new) s) (p - (at + length new)) 0
      ∙ get_or-drop (at + length new) s (p - (at + length new)) 0 ∙ ap (λ (x : ℕ). get_or s x 0) (sym e)

-- ---- numbers in bytes

-- two bytes from a place on, also past the end
pub field_two : (at : ℕ) (xs : List ℕ) → field at 2 xs ≡ get_or xs at 0 + 256 * get_or xs (suc at) 0
unfolding field
field_two zero [] = refl
field_two zero (a ∷ []) = refl
field_two zero (a ∷ b ∷ xs) = let z : a + 256 * (b + 256 * 0) ≡ a + 256 * b = omega arith in z
field_two (suc at) [] = refl
field_two (suc at) (a ∷ xs) = field_two at xs

-- a part of a list of bytes
pub bytes_part : (at n : ℕ) (xs : List ℕ) → Bytes xs → Bytes (take n (drop at xs))
bytes_part at n xs b i = go (below_or i n)
  where
    go : (i < n) ⊎ (n ≤ i) → get_or (take n (drop at xs)) i 0 < 256
    go (inl l) = subst (λ (x : ℕ). x < 256) (sym (get_or-take n (drop at xs) i 0 l ∙ get_or-drop at xs i 0)) (b (at + i))
    go (inr l) =
        subst (λ (x : ℕ). x < 256) (sym (get_or-eq_default (take n (drop at xs)) 0 (omega (arith, length-take n (drop at xs))))) (omega arith)
