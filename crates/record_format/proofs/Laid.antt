-- A file that is laid out as the record of an accepted card is accepted, and the reader answers what it was laid out from.
-- Assumes nothing.
use mathlib.Core.Path.{◌≡◌, refl, sym, ap, ap₂, ◌∙◌}
use mathlib.Core.Bool.{Bool, true, false}
use mathlib.Core.List.{List, [], ◌∷◌}
use Prim.Native.Nat.{ℕ, suc, ◌+◌, ◌*◌, ◌^◌, ◌≤◌, ◌<◌}
use native.Mathlib.Omega.{arith}
use borrow.Author.Tests.{eq-eqb, ltb-true}
use lib.Dec.{eqb}
use lib.ListN.{length, get_or, take, drop}
use Rattle.std.specs.Prelude.{if◌then◌else◌}
use Rattle.gf2.specs.Sets.{has}
use Rattle.flat.specs.Lists.{field}
use Rattle.flat.specs.Cards.{Code, disks, set_ok, card_length, code_of, edition_one}
use Rattle.flat.specs.Strips.{length_ok}
use Rattle.flat.specs.Faults.{Report, accepted, card_report}
use Rattle.flat.proofs.Cards.{count_in}
use Rattle.flat.proofs.Editions.{Accepted, accepted-card, one_size}
use Rattle.flat.proofs.Quantifiers.{set_is}
use Rattle.flat.proofs.Lengths.{length_in_lem}
use Rattle.record_format.specs.Records.{entry_count, bodies_at, strips_at, body_at, record_length, entry, strip_entry, length_in, entry_count_in, entry_in, offset_in, body_length_in, body_in, lost_in}
use Rattle.record_format.specs.Faults.{read_report, record_report}
use Rattle.record_format.proofs.Standing.{stands-take}
use Rattle.record_format.proofs.Entries.{length-entry, length-strip-entry, field-stands, entry_offset, entry_length}
use Rattle.record_format.proofs.Tests.{mark_in, entries_in, card-entry_in, strips_in}
use Rattle.record_format.proofs.Received.{Passed, with_passed}
use Rattle.record_format.proofs.Parts.{Laid}

-- kind 2 tells that a strip is lost
kind : (start L S i : ℕ) → eqb (get_or (strip_entry start L S i) 0 0) 2 ≡ has S i
unfolding strip_entry entry
kind start L S i = go (has S i)
  where
    go : (b : Bool) → eqb (get_or (if b then entry 2 i 0 0 else entry 1 i (body_at start L S i) L) 0 0) 2 ≡ b
    go true = refl
    go false = refl

module _ (card : List ℕ) (L S : ℕ) (stripe file : List ℕ) (ok : card_report (edition_one card) ≡ accepted ((code_of (edition_one card)).k ∷ (code_of (edition_one card)).m ∷ []))
    (long : length_ok L ≡ true) (set : set_ok (code_of (edition_one card)) S ≡ true) (size : length file ≡ record_length (code_of (edition_one card)) L S)
    (laid : Laid card (disks (code_of (edition_one card))) L S stripe file) where
  abbrev C : Code
  C = code_of (edition_one card)

  abbrev n : ℕ
  n = disks C

  known : Accepted (edition_one card) C.k C.m
  known = accepted-card (edition_one card) C.k C.m ok

  few : (1 ≤ C.k) × (C.k ≤ 16) × (1 ≤ C.m) × (C.m ≤ 16)
  few = let a = count_in C.k known.sound.k_ok in let b = count_in C.m known.sound.m_ok in (a.0, a.1, b.0, b.1)

  sized : length card ≡ card_length C.m
  sized = one_size card C.k C.m known

  -- where the first strip's body goes
  at-start : strips_at n (length card) ≡ strips_at n (card_length C.m)
  at-start = ap (strips_at n) sized

  -- the contents and the card lie within the file
  card-inside : bodies_at (entry_count n) + length card ≤ length file
  unfolding record_length body_at strips_at
  card-inside = omega (arith, size, sized)

  -- ---- the fields

  strip_length : length_in file ≡ L
  unfolding length_in
  strip_length = field-stands file 4 4 L laid.length_at (omega (arith, length_in_lem L long))

  many : entry_count_in file ≡ entry_count n
  unfolding entry_count_in entry_count disks
  many = field-stands file 8 2 (entry_count n) laid.many_at (omega (arith, few))

  card_entry : entry_in file 0 ≡ entry 0 0 (bodies_at (entry_count n)) (length card)
  unfolding entry_in
  card_entry = stands-take file 10 10 _ (length-entry 0 0 (bodies_at (entry_count n)) (length card)) laid.card_entry_at

  card-byte : (i v : ℕ) → get_or (entry 0 0 (bodies_at (entry_count n)) (length card)) i 0 ≡ v → get_or (entry_in file 0) i 0 ≡ v
  card-byte i v e = ap (λ (l : List ℕ). get_or l i 0) card_entry ∙ e

  card_at : offset_in file 0 ≡ bodies_at (entry_count n)
  unfolding offset_in bodies_at entry_count disks
  card_at = ap (field 2 4) card_entry ∙ entry_offset 0 0 (bodies_at (entry_count n)) (length card) (omega (arith, few))

  card_length_lem : body_length_in file 0 ≡ length card
  unfolding body_length_in card_length
  card_length_lem = ap (field 6 4) card_entry ∙ entry_length 0 0 (bodies_at (entry_count n)) (length card) (omega (arith, few, sized))

  pub card-is : body_in file 0 ≡ card
  unfolding body_in
  card-is =
      ap₂ (λ (n at : ℕ). take n (drop at file)) card_length_lem card_at
      ∙ stands-take file (bodies_at (entry_count n)) (length card) card refl laid.card_at

  strip-entry : (i : ℕ) → i < n → entry_in file (suc i) ≡ strip_entry (strips_at n (card_length C.m)) L S i
  unfolding entry_in
  strip-entry i l =
      stands-take file (10 + 10 * suc i) 10 (strip_entry (strips_at n (length card)) L S i) (length-strip-entry (strips_at n (length card)) L S i)
      (laid.entries_at i l)
      ∙ ap (λ (at : ℕ). strip_entry at L S i) at-start

  lost : lost_in n file ≡ S
  unfolding lost_in set_ok
  lost =
      set_is n S _ (ltb-true S (2 ^ n) set)
      (λ i l. ap (λ (e : List ℕ). eqb (get_or e 0 0) 2) (strip-entry i l) ∙ kind (strips_at n (card_length C.m)) L S i)

  -- ---- the tests

  entries_ok_lem : (3 ≤ entry_count_in file) × (entry_count_in file ≤ 33) × (bodies_at (entry_count_in file) ≤ length file)
  unfolding entry_count disks bodies_at
  entries_ok_lem = (omega (arith, many, few), omega (arith, many, few), omega (arith, many, card-inside))

  all-passed : Passed file
  unfolding entry record_length bodies_at
  all-passed = record {
    mark_ok_lem = mark_in file (omega (arith, card-inside)) laid.mark_at;
    length_ok_lem = ap length_ok strip_length ∙ long;
    entries_ok_lem = entries_in file entries_ok_lem.0 entries_ok_lem.1 entries_ok_lem.2;
    card_entry_ok_lem = card-entry_in file (card-byte 0 0 refl) (card-byte 1 0 refl) (card_at ∙ ap bodies_at (sym many))
        (omega (arith, card-inside, card_at, card_length_lem));
    card_ok = ap (λ (c : List ℕ). (card_report (edition_one c)).number) card-is ∙ ap (λ (r : Report). r.number) ok;
    count_ok_lem = eq-eqb _ _ (many ∙ ap (λ (c : List ℕ). entry_count (disks (code_of (edition_one c)))) (sym card-is));
    strips_ok = strips_in file _ _ _ _ (λ i l. rw (card-is, strip_length, lost) (strip-entry i (rw card-is at l)));
    size_ok = eq-eqb (length file) (record_length (code_of (edition_one (body_in file 0))) (length_in file) (lost_in (disks (code_of (edition_one (body_in file 0)))) file))
        (rw (card-is, strip_length, lost) size);
  }

  pub laid-read : record_report file ≡ accepted (C.k ∷ C.m ∷ L ∷ S ∷ [])
  unfolding record_report read_report
  laid-read =
      with_passed file (read_report file) all-passed ∙ ap (λ (c : List ℕ). read_report file (code_of (edition_one c))) card-is
      ∙ ap₂ (λ (x y : ℕ). accepted (C.k ∷ C.m ∷ x ∷ y ∷ [])) strip_length lost
