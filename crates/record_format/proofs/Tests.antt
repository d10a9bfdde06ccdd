-- The tests of a record file, each by what it says of the file: what a passed test tells, and when it is passed.
-- Assumes nothing.
use mathlib.Core.Path.{◌≡◌, ap, ap₂, subst}
use mathlib.Core.Bool.{Bool, true, ◌&&◌}
use mathlib.Core.List.{List}
use Prim.Native.Nat.{ℕ, suc, ◌+◌, ◌≤◌, ◌<◌}
use borrow.Author.Tests.{eq-eqb, le-leb}
use lib.Dec.{T, eqb, leb}
use lib.ListN.{length, get_or, take}
use Rattle.gf2.proofs.Tests.{T_true, true-T, and_out, eqb_out, leb_out}
use Rattle.flat.specs.Lists.{same}
use Rattle.flat.proofs.Quantifiers.{every_in, every_out}
use Rattle.record_format.specs.Records.{mark, bodies_at, strip_entry, entry_count_in, entry_in, offset_in, body_length_in, mark_ok, entries_ok, card_entry_ok, strip_entries_ok}
use Rattle.record_format.proofs.Numbers.{same_in, same_out}

and_true : (a b : Bool) → a ≡ true → b ≡ true → (a && b) ≡ true
and_true a b p q = ap₂ ◌&&◌ p q

module _ (file : List ℕ) where
  -- ten bytes and the mark
  pub mark_out : mark_ok file ≡ true → (10 ≤ length file) × (take 4 file ≡ mark)
  unfolding mark_ok
  mark_out t =
      let p = and_out (leb 10 (length file)) (same (take 4 file) mark) (true-T t) in
      (leb_out 10 (length file) p.0, same_out (take 4 file) mark p.1)

  pub mark_in : 10 ≤ length file → take 4 file ≡ mark → mark_ok file ≡ true
  unfolding mark_ok
  mark_in l e = and_true (leb 10 (length file)) (same (take 4 file) mark) (le-leb 10 (length file) l) (ap (λ (xs : List ℕ). same xs mark) e)

  -- E
  abbrev E : ℕ
  E = entry_count_in file

  pub entries_out : entries_ok file ≡ true → (3 ≤ entry_count_in file) × (entry_count_in file ≤ 33) × (bodies_at (entry_count_in file) ≤ length file)
  unfolding entries_ok
  entries_out t =
      let p = and_out (leb 3 E && leb E 33) (leb (bodies_at E) (length file)) (true-T t) in
      let q = and_out (leb 3 E) (leb E 33) p.0 in
      (leb_out 3 E q.0, leb_out E 33 q.1, leb_out (bodies_at E) (length file) p.1)

  pub entries_in : 3 ≤ entry_count_in file → entry_count_in file ≤ 33 → bodies_at (entry_count_in file) ≤ length file → entries_ok file ≡ true
  unfolding entries_ok
  entries_in l h f =
      and_true (leb 3 E && leb E 33) (leb (bodies_at E) (length file)) (and_true (leb 3 E) (leb E 33) (le-leb 3 E l) (le-leb E 33 h))
      (le-leb (bodies_at E) (length file) f)

  -- the card's entry
  abbrev kind : Bool
  kind = eqb (get_or (entry_in file 0) 0 0) 0

  abbrev disk : Bool
  disk = eqb (get_or (entry_in file 0) 1 0) 0

  abbrev here : Bool
  here = eqb (offset_in file 0) (bodies_at E)

  abbrev inside : Bool
  inside = leb (offset_in file 0 + body_length_in file 0) (length file)

  pub card-entry_out : card_entry_ok file ≡ true
      → (get_or (entry_in file 0) 0 0 ≡ 0) × (get_or (entry_in file 0) 1 0 ≡ 0) × (offset_in file 0 ≡ bodies_at (entry_count_in file))
      × (offset_in file 0 + body_length_in file 0 ≤ length file)
  unfolding card_entry_ok
  card-entry_out t =
      let p = and_out (kind && disk && here) inside (true-T t) in
      let q = and_out (kind && disk) here p.0 in
      let r = and_out kind disk q.0 in (
        eqb_out (get_or (entry_in file 0) 0 0) 0 r.0,
        eqb_out (get_or (entry_in file 0) 1 0) 0 r.1,
        eqb_out (offset_in file 0) (bodies_at E) q.1,
        leb_out _ _ p.1,
      )

  pub card-entry_in : get_or (entry_in file 0) 0 0 ≡ 0 → get_or (entry_in file 0) 1 0 ≡ 0 → offset_in file 0 ≡ bodies_at (entry_count_in file)
      → offset_in file 0 + body_length_in file 0 ≤ length file → card_entry_ok file ≡ true
  unfolding card_entry_ok
  card-entry_in a b c d =
      and_true (kind && disk && here) inside
      (and_true (kind && disk) here (and_true kind disk (eq-eqb _ _ a) (eq-eqb _ _ b)) (eq-eqb (offset_in file 0) (bodies_at E) c))
      (le-leb (offset_in file 0 + body_length_in file 0) (length file) d)

  -- the strips' entries
  module _ (n start L S : ℕ) where
    named : ℕ → Bool
    named i = same (entry_in file (suc i)) (strip_entry start L S i)

    pub strips_out : strip_entries_ok n start L S file ≡ true → (i : ℕ) → i < n → entry_in file (suc i) ≡ strip_entry start L S i
    unfolding strip_entries_ok named
    strips_out t i l = same_out (entry_in file (suc i)) (strip_entry start L S i) (every_out n named (true-T t) i l)

    pub strips_in : ((i : ℕ) → i < n → entry_in file (suc i) ≡ strip_entry start L S i) → strip_entries_ok n start L S file ≡ true
    unfolding strip_entries_ok named
    strips_in h =
        T_true (every_in n named (λ i l. subst (λ (e : List ℕ). T (same (entry_in file (suc i)) e)) (h i l) (same_in (entry_in file (suc i)))))
