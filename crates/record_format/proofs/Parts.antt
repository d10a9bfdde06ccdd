-- The layout of a record: where each of its parts stands, that the parts make up the whole, and how long it is.
-- Assumes nothing.
use mathlib.Core.Path.{◌≡◌, refl, sym, ap, ◌∙◌, subst}
use mathlib.Core.List.{List, ◌++◌}
use Prim.Native.Nat.{ℕ, suc, ◌+◌, ◌*◌, ◌≤◌, ◌<◌}
use native.Mathlib.Omega.{arith}
use lib.ListN.{length, length-append}
use Rattle.flat.specs.Lists.{range, each, bytes}
use Rattle.record_format.specs.Records.{mark, entry_count, bodies_at, strips_at, body_at, entry, strip_entry, strip_body, record_bytes}
use Rattle.record_format.proofs.Numbers.{length-bytes}
use Rattle.record_format.proofs.Entries.{length-entry}
use Rattle.record_format.proofs.Places.{entry_at, entries_follow, length-entries, body-first, bodies_follow, bodies_end}
use Rattle.record_format.proofs.Standing.{Stands, stands_self, stands-whole, stands_join, stands-left, stands-right, each_in, each_out}

module _ (card : List ℕ) (n L S : ℕ) where
  abbrev start : ℕ
  start = strips_at n (length card)

  -- the parts before the bodies, one after the other, and how long they are
  abbrev card_entry : List ℕ
  card_entry = entry 0 0 (bodies_at (entry_count n)) (length card)

  abbrev entries : List ℕ
  entries = each (strip_entry start L S) (range 0 n)

  abbrev to_length : List ℕ
  to_length = mark ++ bytes 4 L

  abbrev to_many : List ℕ
  to_many = to_length ++ bytes 2 (entry_count n)

  abbrev to_card_entry : List ℕ
  to_card_entry = to_many ++ card_entry

  abbrev to_entries : List ℕ
  to_entries = to_card_entry ++ entries

  abbrev to_card : List ℕ
  to_card = to_entries ++ card

  length_to_length : length to_length ≡ 8
  length_to_length = omega (arith, length-append mark (bytes 4 L), length-bytes 4 L)

  pub length_to_many : length to_many ≡ 10
  length_to_many = omega (arith, length-append to_length (bytes 2 (entry_count n)), length-bytes 2 (entry_count n), length_to_length)

  pub length_to_card-entry : length to_card_entry ≡ 20
  length_to_card-entry =
      length-append to_many card_entry ∙ omega (arith, length_to_many, length-entry 0 0 (bodies_at (entry_count n)) (length card))

  pub length_to_entries : length to_entries ≡ bodies_at (entry_count n)
  unfolding bodies_at entry_count
  length_to_entries = length-append to_card_entry entries ∙ omega (arith, length_to_card-entry, length-entries start L S n)

  pub length_to_card : length to_card ≡ start
  unfolding strips_at
  length_to_card = length-append to_entries card ∙ omega (arith, length_to_entries)

  module _ (stripe : List ℕ) where
    abbrev bodies : List ℕ
    bodies = each (strip_body L S stripe) (range 0 n)

    -- each part at its place
    pub record Laid (file : List ℕ) : Type 0 where
      pub mark_at : Stands file 0 mark
      pub length_at : Stands file 4 (bytes 4 L)
      pub many_at : Stands file 8 (bytes 2 (entry_count n))
      pub card_entry_at : Stands file 10 (entry 0 0 (bodies_at (entry_count n)) (length card))
      pub entries_at : (i : ℕ) → i < n → Stands file (10 + 10 * suc i) (strip_entry (strips_at n (length card)) L S i)
      pub card_at : Stands file (bodies_at (entry_count n)) card
      pub bodies_at_lem : (i : ℕ) → i < n → Stands file (body_at (strips_at n (length card)) L S i) (strip_body L S stripe i)

    record_is : record_bytes card n L S stripe ≡ to_card ++ bodies
    unfolding record_bytes
    record_is = refl

    module _ (sized : n * L ≤ length stripe) where
      pub length_record : length (record_bytes card n L S stripe) ≡ body_at (strips_at n (length card)) L S n
      length_record =
          ap (λ (l : List ℕ). length l) record_is ∙ length-append to_card bodies ∙ ap (λ (x : ℕ). x + length bodies) length_to_card
          ∙ bodies_end start L S n stripe sized

      -- what is laid so is the record
      pub laid-is : (file : List ℕ) → length file ≡ body_at (strips_at n (length card)) L S n → Laid file → file ≡ record_bytes card n L S stripe
      laid-is file e h =
          let a = stands_join file 0 mark (bytes 4 L) 4 refl h.mark_at h.length_at in
          let b = stands_join file 0 to_length (bytes 2 (entry_count n)) 8 (omega (arith, length_to_length)) a h.many_at in
          let c = stands_join file 0 to_many card_entry 10 (omega (arith, length_to_many)) b h.card_entry_at in
          let d = stands_join file 0 to_card_entry entries 20 (omega (arith, length_to_card-entry)) c
          (each_in (strip_entry start L S) entry_at file n (entries_follow start L S n) h.entries_at) in
          let f = stands_join file 0 to_entries card (bodies_at (entry_count n)) (omega (arith, length_to_entries)) d h.card_at in
          let g = stands_join file 0 to_card bodies (body_at start L S 0) (omega (arith, length_to_card, body-first start L S)) f
          (each_in (strip_body L S stripe) (body_at start L S) file n (bodies_follow start L S n stripe sized) h.bodies_at_lem) in
          stands-whole file (record_bytes card n L S stripe) (e ∙ sym length_record) (subst (Stands file 0) (sym record_is) g)

      -- and the record is laid so
      pub record_laid : Laid (record_bytes card n L S stripe)
      record_laid =
          let file = record_bytes card n L S stripe in
          let g = subst (Stands file 0) record_is (stands_self file) in
          let f = stands-left file 0 to_card bodies g in
          let d = stands-left file 0 to_entries card f in
          let c = stands-left file 0 to_card_entry entries d in
          let b = stands-left file 0 to_many card_entry c in
          let a = stands-left file 0 to_length (bytes 2 (entry_count n)) b in
          record {
            mark_at = stands-left file 0 mark (bytes 4 L) a;
            length_at = stands-right file 0 mark (bytes 4 L) 4 refl a;
            many_at = stands-right file 0 to_length (bytes 2 (entry_count n)) 8 (omega (arith, length_to_length)) b;
            card_entry_at = stands-right file 0 to_many card_entry 10 (omega (arith, length_to_many)) c;
            entries_at = each_out (strip_entry start L S) entry_at file n (entries_follow start L S n)
                (stands-right file 0 to_card_entry entries 20 (omega (arith, length_to_card-entry)) d);
            card_at = stands-right file 0 to_entries card (bodies_at (entry_count n)) (omega (arith, length_to_entries)) f;
            bodies_at_lem = each_out (strip_body L S stripe) (body_at start L S) file n (bodies_follow start L S n stripe sized)
                (stands-right file 0 to_card bodies (body_at start L S 0) (omega (arith, length_to_card, body-first start L S)) g);
          }
