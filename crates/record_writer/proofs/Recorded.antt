-- The record of a stripe is what stands in the output once its parts are put in order.
-- Assumes nothing.
use mathlib.Core.Path.{◌≡◌, refl, sym, ap, ◌∙◌}
use mathlib.Core.List.{List, ◌++◌, append_assoc}
use Prim.Native.Nat.{ℕ, ◌+◌, ◌*◌, ◌≤◌}
use native.Mathlib.Omega.{arith}
use lib.ListN.{length}
use Rattle.flat.specs.Lists.{range, each, bytes}
use Rattle.record_format.specs.Records.{mark, entry_count, bodies_at, strips_at, body_at, entry, strip_entry, strip_body, record_bytes}
use Rattle.record_format.proofs.Places.{body-first, body_grows}
use Rattle.record_format.proofs.Parts.{length_to_many, length_to_card-entry, length_to_entries, length_to_card}
use Rattle.flat.specs.Lists.{put}
use Rattle.flat.proofs.Lists.{put_next}

-- the sizes after the mark
abbrev pub sizes_of : ℕ → ℕ → List ℕ
sizes_of n L = bytes 4 L ++ bytes 2 (n + 1)

-- the places, as the code computes them
pub bodies_at_lem : (n : ℕ) → 20 + 10 * n ≡ bodies_at (entry_count n)
unfolding bodies_at entry_count
bodies_at_lem n = omega arith

pub strips-at : (n len : ℕ) → 20 + 10 * n + len ≡ strips_at n len
unfolding strips_at
strips-at n len = ap (λ (x : ℕ). x + len) (bodies_at_lem n)

module _ (card : List ℕ) (n L S : ℕ) (out : List ℕ) (h : body_at (strips_at n (length card)) L S n ≤ length out) where
  abbrev start : ℕ
  start = strips_at n (length card)

  -- the output has room for all that goes before the bodies
  pub room : 20 + 10 * n + length card ≤ length out
  room = omega (arith, strips-at n (length card), body-first start L S, body_grows start L S 0 n (omega arith))

  abbrev at : ℕ
  at = bodies_at (entry_count n)

  abbrev first : List ℕ
  first = entry 0 0 at (length card)

  abbrev entries : List ℕ
  entries = each (strip_entry start L S) (range 0 n)

  abbrev front : List ℕ
  front = mark ++ bytes 4 L ++ bytes 2 (entry_count n)

  module _ (stripe : List ℕ) where
    abbrev bodies : List ℕ
    bodies = each (strip_body L S stripe) (range 0 n)

    -- the parts, put one after the other
    parts_put : put (put (put (put (put (put out 0 mark) 4 (bytes 4 L ++ bytes 2 (entry_count n))) 10 first) 20 entries) at card) start bodies
        ≡ put out 0 (record_bytes card n L S stripe)
    unfolding record_bytes
    parts_put =
        ap (λ (x : List ℕ). put (put (put (put x 10 first) 20 entries) at card) start bodies)
        (put_next out 0 4 mark (bytes 4 L ++ bytes 2 (entry_count n)) refl (omega (arith, room))
        ∙ ap (put out 0) (sym (append_assoc mark (bytes 4 L) (bytes 2 (entry_count n)))))
        ∙ ap (λ (x : List ℕ). put (put (put x 20 entries) at card) start bodies)
        (put_next out 0 10 front first (omega (arith, length_to_many card n L S)) (omega (arith, room)))
        ∙ ap (λ (x : List ℕ). put (put x at card) start bodies)
        (put_next out 0 20 (front ++ first) entries (omega (arith, length_to_card-entry card n L S)) (omega (arith, room)))
        ∙ ap (λ (x : List ℕ). put x start bodies)
        (put_next out 0 at (front ++ first ++ entries) card (omega (arith, length_to_entries card n L S)) (omega (arith, room, bodies_at_lem n)))
        ∙ put_next out 0 start (front ++ first ++ entries ++ card) bodies (omega (arith, length_to_card card n L S))
        (omega (arith, room, strips-at n (length card)))

    pub record_put : put
        (put (put (put (put (put out 0 mark) 4 (sizes_of n L)) 10 (entry 0 0 (20 + 10 * n) (length card))) 20
        (each (strip_entry (20 + 10 * n + length card) L S) (range 0 n))) (20 + 10 * n) card)
        (20 + 10 * n + length card) (each (strip_body L S stripe) (range 0 n))
        ≡ put out 0 (record_bytes card n L S stripe)
    unfolding entry_count
    record_put = rw (strips-at n (length card), bodies_at_lem n) parts_put
