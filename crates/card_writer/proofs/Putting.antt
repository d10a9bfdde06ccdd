-- The parts of a card, put one after the other: the counts, the columns and the wears.
-- Assumes nothing.
use mathlib.Core.Path.{◌≡◌, refl, sym, ap, ◌∙◌}
use mathlib.Core.List.{List, [], ◌∷◌, ◌++◌, append_assoc, append-nil}
use Prim.Native.Nat.{ℕ, ◌+◌, ◌*◌, ◌≤◌, ◌<◌}
use native.Mathlib.Omega.{arith}
use native.Mathlib.Numerals.{add-one}
use lib.ListN.{length, get_or, take, length-append}
use lib.Seq.{take-suc, take-length, length-take-le}
use Rattle.std.specs.Int.{to_le_bytes, w16}
use Rattle.flat.specs.declared.Edition.{Edition}
use Rattle.flat.specs.declared.Edition.TheVariants.{First, Second}
use Rattle.flat.specs.Lists.{each, bytes, put}
use Rattle.flat.specs.Cards.{code, card_bytes, edition_bytes, edition_length, start, wear_count}
use Rattle.flat.proofs.Lists.{put-none, put_next, put_whole, length-put}
use Rattle.flat.proofs.Cards.{length-column-bytes}
use Rattle.card.proofs.Places.{length_parts}
use Rattle.card_writer.specs.Forms.{counts}

-- ---- the columns: after j turns the first j of them stand there

each_append : (f : ℕ → List ℕ) (xs ys : List ℕ) → each f (xs ++ ys) ≡ each f xs ++ each f ys
unfolding each
each_append f [] ys = refl
each_append f (x ∷ xs) ys = ap (λ (l : List ℕ). f x ++ l) (each_append f xs ys) ∙ sym (append_assoc (f x) (each f xs) (each f ys))

pub columns-none : (s : List ℕ) (at : ℕ) (cs : List ℕ) → s ≡ put s at (each (bytes 2) (take 0 cs))
unfolding each
columns-none s at cs = sym (put-none s at)

-- a column's two bytes
pub two_bytes : (c : ℕ) → to_le_bytes w16 c ≡ bytes 2 c
unfolding bytes
two_bytes c = refl

pub columns-more : (s out new : List ℕ) (at j b : ℕ) (cs : List ℕ) → at + 2 * length cs ≤ length s → j < length cs
    → out ≡ put s at (each (bytes 2) (take j cs)) → b ≡ at + 2 * j → new ≡ put out b (bytes 2 (get_or cs j 0)) → new ≡ put s at (each (bytes 2) (take (j + 1) cs))
unfolding each bytes
columns-more s out new at j b cs fits l so_far place turn =
    let c = get_or cs j 0 in
    let front = each (bytes 2) (take j cs) in
    let many : length front ≡ 2 * j = length-column-bytes (take j cs) ∙ ap (λ (n : ℕ). 2 * n) (length-take-le j cs (omega arith)) in
    turn ∙ ap (λ (o : List ℕ). put o b (bytes 2 c)) so_far ∙ put_next s at b front (bytes 2 c) (omega arith) (omega arith)
    ∙ ap (put s at)
    (sym (each_append (bytes 2) (take j cs) (c ∷ [])) ∙ ap (each (bytes 2)) (sym (ap (λ (n : ℕ). take n cs) (add-one j) ∙ take-suc cs j 0 l)))

pub columns-long : (s new : List ℕ) (at j : ℕ) (cs : List ℕ) → at + 2 * length cs ≤ length s → j ≤ length cs
    → new ≡ put s at (each (bytes 2) (take j cs)) → length new ≡ length s
columns-long s new at j cs fits l e =
    ap length e ∙ length-put s at (each (bytes 2) (take j cs)) (omega (arith, length-column-bytes (take j cs), length-take-le j cs l))

pub columns-all : (s out : List ℕ) (at j : ℕ) (cs : List ℕ) → j ≡ length cs → out ≡ put s at (each (bytes 2) (take j cs)) → out ≡ put s at (each (bytes 2) cs)
columns-all s out at j cs n e = e ∙ ap (λ (l : List ℕ). put s at (each (bytes 2) l)) (ap (λ (i : ℕ). take i cs) n ∙ take-length cs)

-- ---- the whole card

none_left : (ws : List ℕ) → length ws ≡ 0 → ws ≡ []
none_left [] e = refl
none_left (w ∷ ws) e = absurd (omega arith)

parts : (e : Edition) (k m n : ℕ) (cs ws : List ℕ) → length ws ≡ wear_count e n → (counts e k m ++ each (bytes 2) cs) ++ ws ≡ edition_bytes e (code k m cs) ws
unfolding counts edition_bytes card_bytes wear_count
parts First k m n cs ws h = ap (λ (l : List ℕ). k ∷ m ∷ each (bytes 2) cs ++ l) (none_left ws h) ∙ ap (λ (l : List ℕ). k ∷ m ∷ l) (append-nil (each (bytes 2) cs))
parts Second k m n cs ws h = refl

pub counts-long : (e : Edition) (k m : ℕ) → (2 ≤ length (counts e k m)) × (length (counts e k m) ≤ 3)
unfolding counts
counts-long First k m = (omega arith, omega arith)
counts-long Second k m = (omega arith, omega arith)

counts_start : (e : Edition) (k m : ℕ) → length (counts e k m) ≡ start e + 2
unfolding counts start
counts_start First k m = omega arith
counts_start Second k m = omega arith

module _ (e : Edition) (k m at : ℕ) (cs ws s : List ℕ) (many : length cs ≡ m) (worn : length ws ≡ wear_count e (k + m))
    (long : length s ≡ edition_length e (code k m [])) (begins : at ≡ length (counts e k m)) where
  room : length s ≡ at + 2 * m + length ws
  room = omega (arith, length_parts e k m [], counts_start e k m)

  -- no part moves the buffer's end, and each has room
  pub counts_fit : 1 ≤ m → 3 ≤ length s
  counts_fit l = omega (arith, room, counts-long e k m)

  first-long : (a : List ℕ) → a ≡ put s 0 (counts e k m) → length a ≡ length s
  first-long a p = ap length p ∙ length-put s 0 (counts e k m) (omega (arith, room))

  pub columns_fit : (a : List ℕ) → a ≡ put s 0 (counts e k m) → at + 2 * length cs ≤ length a
  columns_fit a p = omega (arith, room, first-long a p)

  pub wears_fit : (a b : List ℕ) → a ≡ put s 0 (counts e k m) → b ≡ put a at (each (bytes 2) cs) → at + 2 * m + length ws ≤ length b
  wears_fit a b p q =
      omega (arith, room, first-long a p, ap length q ∙ length-put a at (each (bytes 2) cs) (omega (arith, length-column-bytes cs, columns_fit a p)))

  pub card-put : (a b c : List ℕ) → a ≡ put s 0 (counts e k m) → b ≡ put a at (each (bytes 2) cs) → c ≡ put b (at + 2 * m) ws
      → c ≡ edition_bytes e (code k m cs) ws
  card-put a b c p q r =
      let h = counts e k m in
      let cb = each (bytes 2) cs in
      let n : length cb ≡ 2 * m = length-column-bytes cs ∙ ap (λ (x : ℕ). 2 * x) many in
      let l = room in
      let hc = length-append h cb in
      r ∙ ap (λ (x : List ℕ). put x (at + 2 * m) ws) (q ∙ ap (λ (x : List ℕ). put x at cb) p ∙ put_next s 0 at h cb (omega arith) (omega arith))
      ∙ put_next s 0 (at + 2 * m) (h ++ cb) ws (omega arith) (omega arith)
      ∙ put_whole s ((h ++ cb) ++ ws) (length-append (h ++ cb) ws ∙ omega arith) ∙ parts e k m (k + m) cs ws worn
