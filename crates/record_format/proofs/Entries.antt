-- The bytes of a record's entries, and the numbers that stand in them.
-- Assumes nothing.
use mathlib.Core.Path.{◌≡◌, refl, sym, ap, ◌∙◌}
use mathlib.Core.Bool.{Bool, true, false}
use mathlib.Core.List.{List, [], ◌∷◌}
use Prim.Native.Nat.{ℕ, ◌+◌, ◌^◌, ◌≤◌, ◌<◌}
use native.Mathlib.Omega.{arith}
use lib.ListN.{length, get_or, take, drop, length-append, length-drop}
use lib.Seq.{length-take-le}
use Rattle.std.specs.Prelude.{if◌then◌else◌}
use Rattle.gf2.specs.Sets.{has}
use Rattle.flat.specs.Lists.{Bytes, bytes, number, field}
use Rattle.flat.proofs.Lists.{bytes_part}
use Rattle.record_format.specs.Records.{entry, body_at, strip_entry}
use Rattle.record_format.proofs.Numbers.{length-bytes, number-bytes, bytes-number}
use Rattle.record_format.proofs.Standing.{Stands, stands_self, stands-whole, stands-take, take-stands, stands_join, stands-left, stands-right}

-- a number where its bytes stand
pub field-stands : (file : List ℕ) (at n v : ℕ) → Stands file at (bytes n v) → v < 256 ^ n → field at n file ≡ v
unfolding field
field-stands file at n v s h = ap number (stands-take file at n (bytes n v) (length-bytes n v) s) ∙ number-bytes n v h

pub length-entry : (kind disk offset len : ℕ) → length (entry kind disk offset len) ≡ 10
unfolding entry
length-entry kind disk offset len = omega (arith, length-append (bytes 4 offset) (bytes 4 len), length-bytes 4 offset, length-bytes 4 len)

pub length-strip-entry : (start L S i : ℕ) → length (strip_entry start L S i) ≡ 10
unfolding strip_entry
length-strip-entry start L S i = go (has S i)
  where
    go : (b : Bool) → length (if b then entry 2 i 0 0 else entry 1 i (body_at start L S i) L) ≡ 10
    go true = length-entry 2 i 0 0
    go false = length-entry 1 i (body_at start L S i) L

-- and the bytes where the number is
pub stands-field : (file : List ℕ) (at n v : ℕ) → Bytes file → at + n ≤ length file → field at n file ≡ v → Stands file at (bytes n v)
unfolding field
stands-field file at n v b h e =
    take-stands file at n (bytes n v) (length-bytes n v)
    (sym (ap (bytes n) (sym e)
    ∙ bytes-number n (take n (drop at file)) (bytes_part at n file b) (length-take-le n (drop at file) (omega (arith, length-drop at file)))))

-- the offset and the length that it names
pub entry_offset : (kind disk offset len : ℕ) → offset < 256 ^ 4 → field 2 4 (entry kind disk offset len) ≡ offset
unfolding entry
entry_offset kind disk offset len h =
    let whole = entry kind disk offset len in
    field-stands whole 2 4 offset
    (stands-right whole 0 (kind ∷ disk ∷ []) (bytes 4 offset) 2 refl
    (stands-left whole 0 (kind ∷ disk ∷ bytes 4 offset) (bytes 4 len) (stands_self whole))) h

pub entry_length : (kind disk offset len : ℕ) → len < 256 ^ 4 → field 6 4 (entry kind disk offset len) ≡ len
unfolding entry
entry_length kind disk offset len h =
    let whole = entry kind disk offset len in
    field-stands whole 6 4 len
    (stands-right whole 0 (kind ∷ disk ∷ bytes 4 offset) (bytes 4 len) 6 (omega (arith, length-bytes 4 offset)) (stands_self whole)) h

-- ten bytes are the entry of what they name
pub entry-back : (xs : List ℕ) → Bytes xs → length xs ≡ 10 → xs ≡ entry (get_or xs 0 0) (get_or xs 1 0) (field 2 4 xs) (field 6 4 xs)
unfolding entry
entry-back [] b e = absurd (omega arith)
entry-back (x ∷ []) b e = absurd (omega arith)
entry-back (x ∷ y ∷ rest) b e =
    let xs = x ∷ y ∷ rest in
    let offset = bytes 4 (field 2 4 xs) in
    let len = bytes 4 (field 6 4 xs) in
    let first = stands_join xs 0 (x ∷ y ∷ []) offset 2 refl refl (stands-field xs 2 4 (field 2 4 xs) b (omega arith) refl) in
    stands-whole xs (entry x y (field 2 4 xs) (field 6 4 xs)) (e ∙ sym (length-entry x y (field 2 4 xs) (field 6 4 xs)))
    (stands_join xs 0 (x ∷ y ∷ offset) len 6 (omega (arith, length-bytes 4 (field 2 4 xs))) first (stands-field xs 6 4 (field 6 4 xs) b (omega arith) refl))
