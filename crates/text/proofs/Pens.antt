-- What a pen has put: nothing, some bytes after others, a piece for each number of a list; and the room that is left.
-- Assumes nothing.
use mathlib.Core.Path.{◌≡◌, refl, sym, ap, ◌∙◌}
use mathlib.Core.List.{List, [], ◌∷◌, ◌++◌, append_assoc}
use Prim.Native.Nat.{ℕ, suc, ◌+◌, ◌-◌, ◌≤◌, ◌<◌}
use native.Mathlib.Nat.{add-zero}
use native.Mathlib.Omega.{arith}
use borrow.Rule.Slice.PartMut.{put_mid}
use lib.ListN.{length, get_or, set, take, drop, length-append, take-append-drop}
use lib.Seq.{sets, sets-eq, length-sets, drop-drop, take-length}
use Rattle.flat.specs.Lists.{each}
use Rattle.text.specs.declared.pen.Pen.{Pen}
use Rattle.text.specs.Places.{Put}
use Rattle.text.specs.Pens.{Room, Wrote}
use Rattle.text.proofs.Pieces.{each_append, each_none, each_more, length_more}

-- ---- bytes put at a place

-- n bytes of a buffer, written anew
pub put-part : (s l ys : List ℕ) (at n : ℕ) → n ≡ length l → ys ≡ l → at + length l ≤ length s → put_mid at (at + n - at) s ys ≡ sets s at l
put-part s l ys at n e f h =
    let g : at + n - at ≡ length l = omega arith in
    rw (g, f, sets-eq l s at h) (simp (drop-drop, append_assoc))

sets-append : (a b old : List ℕ) (at : ℕ) → sets (sets old at a) (at + length a) b ≡ sets old at (a ++ b)
sets-append [] b old at = ap (λ (i : ℕ). sets old i b) (add-zero at)
sets-append (x ∷ a) b old at =
    let e : at + suc (length a) ≡ suc at + length a = omega arith in
    ap (λ (i : ℕ). sets (sets (set old at x) (suc at) a) i b) e ∙ sets-append a b (set old at x) (suc at)

put_then : {a b : List ℕ} {at i j : ℕ} {old mid new : List ℕ} → Put a at old mid i → Put b i mid new j → Put (a ++ b) at old new j
put_then {a} {b} {at} {i} {j} {old} {mid} {new} p q =
    record {
      place = omega (arith, p.place, q.place, length-append a b);
      bytes =
          q.bytes ∙ ap (λ (l : List ℕ). sets l i b) p.bytes ∙ ap (λ (n : ℕ). sets (sets old at a) n b) p.place ∙ sets-append a b old at;
    }

-- ---- a pen

pub wrote-none : (p : Pen) → Wrote [] p p
wrote-none p = record { same_buffer = refl; put = record { place = sym (add-zero p.at); bytes = refl } }

pub wrote_then : {a b : List ℕ} {p q r : Pen} → Wrote a p q → Wrote b q r → Wrote (a ++ b) p r
wrote_then u v = record { same_buffer = v.same_buffer ∙ u.same_buffer; put = put_then u.put v.put }

pub wrote-length : {a : List ℕ} {p q : Pen} → Wrote a p q → length q.out.now ≡ length p.out.now
wrote-length {a} {p} u = ap length u.put.bytes ∙ length-sets p.out.now p.at a

-- where both have room, so has the first
pub front : (a b : List ℕ) (p : Pen) → Room (a ++ b) p → Room a p
front a b p h = omega (arith, length-append a b)

-- after the first is put, the second has room
pub behind : (b : List ℕ) {a : List ℕ} {p q : Pen} → Wrote a p q → Room (a ++ b) p → Room b q
behind b {a} u h = omega (arith, length-append a b, u.put.place, wrote-length u)

-- ---- a loop that puts a piece for each number

-- the first i pieces are put
pub record Drawn (f : ℕ → List ℕ) (xs : List ℕ) (i : ℕ) (old new : Pen) : Type 0 where
  pub wrote : Wrote (each f (take i xs)) old new

pub drawn_none : (f : ℕ → List ℕ) (xs : List ℕ) (p : Pen) → Drawn f xs 0 p p
drawn_none f xs p = record { wrote = rw (each_none f) (wrote-none p) }

module _ {f : ℕ → List ℕ} {xs : List ℕ} {i : ℕ} {p q : Pen} (d : Drawn f xs i p q) where
  -- where all have room, so has the next one
  pub drawn_room : i < length xs → Room (each f xs) p → Room (f (get_or xs i 0)) q
  drawn_room h l =
      let e : each f xs ≡ each f (take (i + 1) xs) ++ each f (drop (i + 1) xs) =
      ap (each f) (sym (take-append-drop (i + 1) xs)) ∙ each_append f (take (i + 1) xs) (drop (i + 1) xs) in
      omega (
        arith,
        d.wrote.put.place,
        wrote-length d.wrote,
        length_more f xs i h,
        ap length e,
        length-append (each f (take (i + 1) xs)) (each f (drop (i + 1) xs)),
      )

  pub drawn_more : {r : Pen} → i < length xs → Wrote (f (get_or xs i 0)) q r → Drawn f xs (i + 1) p r
  drawn_more h w = record { wrote = rw (each_more f xs i h) (wrote_then d.wrote w) }

  pub drawn_all : i ≡ length xs → Wrote (each f xs) p q
  drawn_all e = rw (e, take-length) at d.wrote
