-- The first tests of a record, as the code makes them: ten bytes and the mark, the number of entries, and the card's entry.
-- Assumes nothing.
use mathlib.Core.Path.{◌≡◌, refl, sym, ap, ◌∙◌}
use mathlib.Core.Bool.{Bool, true, false, ◌&&◌}
use mathlib.Core.List.{List, [], ◌∷◌}
use Prim.Native.Nat.{ℕ, zero, suc, ◌+◌, ◌-◌, ◌*◌, ◌≤◌, ◌<◌}
use native.Mathlib.Omega.{arith}
use borrow.Author.Tests.{le-leb, lt-leb, eq-eqb, ne_eqb}
use lib.Dec.{eqb, leb}
use lib.ListN.{length, get_or, take, drop}
use lib.Seq.{take-nil, take-take, drop-drop, get_or-take, get_or-drop}
use Rattle.flat.specs.Lists.{same, number, field}
use Rattle.record_format.specs.Records.{mark, bodies_at, length_in, entry_count_in, entry_in, offset_in, body_length_in, body_in, mark_ok, entries_ok, card_entry_ok}
use Rattle.record_format.proofs.Tests.{mark_out, entries_out, card-entry_out}

-- ---- ten bytes and the mark

pub mark-short : (file : List ℕ) (b : Bool) → b ≡ false → length file < 10 → b ≡ mark_ok file
unfolding mark_ok
mark-short file b e l = e ∙ simp (lt-leb _ _ l)

pub mark-long : (file : List ℕ) (b : Bool) → 10 ≤ length file → b ≡ same (take 4 (drop 0 file)) mark → b ≡ mark_ok file
unfolding mark_ok
mark-long file b l e = simp (le-leb _ _ l) e

pub ten_bytes : (file : List ℕ) → mark_ok file ≡ true → 10 ≤ length file
ten_bytes file e = (mark_out file e).0

-- ---- the numbers that are read

pub length_at : (file : List ℕ) (l : ℕ) → l ≡ field 4 4 file → length_in file ≡ l
unfolding length_in
length_at file l e = sym e

pub entries_at : (file : List ℕ) (e : ℕ) → e ≡ field 8 2 file → entry_count_in file ≡ e
unfolding entry_count_in
entries_at file e q = sym q

-- ---- the number of entries

module _ (file : List ℕ) (e : ℕ) (is : e ≡ field 8 2 file) where
  entries_tests : entries_ok file ≡ (leb 3 e && leb e 33 && leb (10 + 10 * e) (length file))
  unfolding entries_ok entry_count_in bodies_at
  entries_tests = rw is

  pub entries-few : e < 3 → false ≡ entries_ok file
  entries-few l = sym (entries_tests ∙ simp (lt-leb 3 e l))

  pub entries-many : 3 ≤ e → 33 < e → false ≡ entries_ok file
  entries-many l h = sym (entries_tests ∙ simp (le-leb 3 e l, lt-leb e 33 h))

  pub entries_fit : 3 ≤ e → e ≤ 33 → leb (10 + 10 * e) (length file) ≡ entries_ok file
  entries_fit l h = sym (entries_tests ∙ simp (le-leb 3 e l, le-leb e 33 h))

pub entries_in : (file : List ℕ) → entries_ok file ≡ true → (3 ≤ field 8 2 file) × (field 8 2 file ≤ 33) × (10 + 10 * field 8 2 file ≤ length file)
unfolding entry_count_in bodies_at
entries_in file t = entries_out file t

-- the card's entry and the first strip's stand in the file
pub long : (file : List ℕ) → entries_ok file ≡ true → 40 ≤ length file
long file t = omega (arith, entries_in file t)

-- ---- a field of an entry is a field of the file

drop_taken : (at n : ℕ) (xs : List ℕ) → drop at (take (at + n) xs) ≡ take n (drop at xs)
drop_taken zero n xs = ap (λ (i : ℕ). take i xs) (let e : 0 + n ≡ n = omega arith in e)
drop_taken (suc at) n [] = ap (drop (suc at)) (take-nil (suc at + n)) ∙ sym (take-nil n)
drop_taken (suc at) n (x ∷ xs) = let e : suc at + n ≡ suc (at + n) = omega arith in rw e (drop_taken at n xs)

pub field_part : (d at n m r : ℕ) (xs : List ℕ) → m ≡ at + r → n ≤ r → field at n (take m (drop d xs)) ≡ field (d + at) n xs
unfolding field
field_part d at n m r xs e l =
    ap (λ (i : ℕ). number (take n (drop at (take i (drop d xs))))) e
    ∙ ap number (ap (take n) (drop_taken at r (drop d xs)) ∙ take-take n r (drop at (drop d xs)) l ∙ ap (take n) (drop-drop at d xs))

pub card_offset : (file : List ℕ) → offset_in file 0 ≡ field 12 4 file
unfolding offset_in entry_in
card_offset file = field_part 10 2 4 10 8 file refl (omega arith)

pub card_size : (file : List ℕ) → body_length_in file 0 ≡ field 16 4 file
unfolding body_length_in entry_in
card_size file = field_part 10 6 4 10 4 file refl (omega arith)

card-byte : (file : List ℕ) (i : ℕ) → i < 10 → get_or (entry_in file 0) i 0 ≡ get_or file (10 + i) 0
unfolding entry_in
card-byte file i l = get_or-take 10 (drop 10 file) i 0 l ∙ get_or-drop 10 file i 0

-- ---- the card's entry

module _ (file : List ℕ) (e at len : ℕ) (many : e ≡ field 8 2 file) (off : at ≡ field 12 4 file) (long : len ≡ field 16 4 file) where
  card_tests : card_entry_ok file ≡ (eqb (get_or file 10 0) 0 && eqb (get_or file 11 0) 0 && eqb at (10 + 10 * e) && leb (at + len) (length file))
  unfolding card_entry_ok entry_count_in bodies_at
  card_tests = rw (card-byte file 0 (omega arith), card-byte file 1 (omega arith), card_offset, card_size, many, off, long)

  pub card_kind : (get_or file 10 0 ≡ 0 → ⊥) → false ≡ card_entry_ok file
  card_kind f = sym (card_tests ∙ simp (ne_eqb _ _ f))

  pub card_disk : get_or file 10 0 ≡ 0 → (get_or file 11 0 ≡ 0 → ⊥) → false ≡ card_entry_ok file
  card_disk p f = sym (card_tests ∙ simp (eq-eqb _ _ p, ne_eqb _ _ f))

  pub card-place : get_or file 10 0 ≡ 0 → get_or file 11 0 ≡ 0 → (at ≡ 10 + 10 * e → ⊥) → false ≡ card_entry_ok file
  card-place p q f = sym (card_tests ∙ simp (eq-eqb _ _ p, eq-eqb _ _ q, ne_eqb _ _ f))

  pub card_end : get_or file 10 0 ≡ 0 → get_or file 11 0 ≡ 0 → at ≡ 10 + 10 * e → leb (at + len) (length file) ≡ card_entry_ok file
  card_end p q r = sym (card_tests ∙ simp (eq-eqb _ _ p, eq-eqb _ _ q, eq-eqb _ _ r))

-- the card's body does not lie past the end
pub card_in : (file : List ℕ) → card_entry_ok file ≡ true → field 12 4 file + field 16 4 file ≤ length file
card_in file t = rw (sym (card_offset file), sym (card_size file)) (card-entry_out file t).3

-- and is the part that the code lends
pub card_part : (file : List ℕ) (at len : ℕ) → at ≡ field 12 4 file → len ≡ field 16 4 file → take (at + len - at) (drop at file) ≡ body_in file 0
unfolding body_in
card_part file at len off long =
    let e : at + len - at ≡ len = omega arith in
    rw (e, card_offset file, card_size file, off, long)

-- ---- what the proofs of the code's tests cite

-- ten bytes and the mark
pub ruleset mark_tests = (mark-short, mark-long)

-- the number of entries
pub ruleset entry_count_tests = (entries-few, entries-many, entries_fit)

-- the card's entry
pub ruleset card_entry_tests = (long, card_kind, card_disk, card-place, card_end)

-- the card, as a part of the file
pub ruleset card_part_laws = (long, card_in, card_part)
