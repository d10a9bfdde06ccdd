-- An accepted record is what the record writer writes from the record's own card, length, lost set and bodies.
-- Assumes nothing.
use mathlib.Core.Path.{◌≡◌, refl, sym, ap, ap₂, ◌∙◌, subst}
use mathlib.Core.Bool.{true}
use mathlib.Core.Logic.{◌⊎◌, inl, inr}
use mathlib.Core.List.{List, [], ◌∷◌, ◌++◌, append-nil}
use Prim.Native.Nat.{ℕ, suc, ◌+◌, ◌*◌, ◌^◌, ◌≤◌, ◌<◌}
use native.Mathlib.Omega.{arith}
use borrow.Author.Tests.{lt-ltb}
use lib.Dec.{T}
use lib.ListN.{length, take, drop, replicate, length-replicate, length-drop, drop_of_length-le}
use lib.Seq.{length-take-le}
use Rattle.std.specs.Prelude.{if◌then◌else◌}
use Rattle.gf2.specs.Sets.{has}
use Rattle.gf2.proofs.Tests.{dec, if_true, if_false}
use Rattle.flat.specs.Lists.{Bytes, range, each, bytes}
use Rattle.flat.specs.Cards.{Code, disks, set_ok, card_length, code_of, edition_one}
use Rattle.flat.specs.Faults.{accepted}
use Rattle.flat.proofs.Lists.{bytes_part}
use Rattle.flat.proofs.Reports.{unless_accepted}
use Rattle.record_format.specs.Records.{entry_count, bodies_at, strips_at, body_at, record_length, entry, strip_entry, strip_body, record_bytes, length_in, entry_count_in, entry_in, offset_in, body_length_in, body_in}
use Rattle.record_format.specs.Faults.{record_write_report, record_write_output, record_report, body_part}
use Rattle.record_format.specs.Theorems.{stripe_in}
use Rattle.record_format.proofs.Standing.{Stands, stands_self, take-stands, stands-take, length-each, each_out}
use Rattle.record_format.proofs.Entries.{length-entry, length-strip-entry, stands-field, entry-back}
use Rattle.record_format.proofs.Parts.{Laid, laid-is}
use Rattle.record_format.proofs.Received.{Received, received}
use Rattle.record_format.proofs.Written.{record_accepted}
use Rattle.record_format.proofs.Bodies.{body_part_lem, length-body}

module _ (file : List ℕ) (k m L S : ℕ) (b : Bytes file) (e : record_report file ≡ accepted (k ∷ m ∷ L ∷ S ∷ [])) where
  r : Received file k m L S
  r = received file k m L S e

  abbrev C : Code
  C = code_of (edition_one (body_in file 0))

  abbrev n : ℕ
  n = k + m

  n-is : disks C ≡ k + m
  unfolding disks
  n-is = ap₂ ◌+◌ r.is_k r.is_m

  abbrev card : List ℕ
  card = body_in file 0

  -- where the first strip's body goes
  abbrev start : ℕ
  start = strips_at n (length card)

  at-start : strips_at n (length card) ≡ strips_at n (card_length m)
  at-start = ap (strips_at n) r.card_size

  -- ---- the stripe

  part : ℕ → List ℕ
  part d = if has S d then replicate L 0 else body_part file d

  length_part : (d : ℕ) → d < n → length (part d) ≡ L
  unfolding part
  length_part d l = go (dec (has S d))
    where
      go : T (has S d) ⊎ (T (has S d) → ⊥) → length (part d) ≡ L
      go (inl t) = ap (λ (l : List ℕ). length l) (if_true (has S d) (replicate L 0) (body_part file d) t) ∙ length-replicate L 0
      go (inr f) = ap (λ (l : List ℕ). length l) (if_false (has S d) (replicate L 0) (body_part file d) f) ∙ length-body file k m L S e d l f

  follow : (i : ℕ) → i < n → i * L + length (part i) ≡ suc i * L
  follow i l = omega (arith, length_part i l)

  abbrev stripe : List ℕ
  stripe = stripe_in n L S file

  stripe-is : stripe ≡ each part (range 0 n)
  unfolding stripe_in part
  stripe-is = refl

  length-stripe : length stripe ≡ n * L
  length-stripe =
      let h : 0 * L + length (each part (range 0 n)) ≡ n * L = length-each part (λ i. i * L) n follow in
      ap (λ (l : List ℕ). length l) stripe-is ∙ omega arith

  -- the strip of a disk that is not lost is its body
  strip-is : (d : ℕ) → d < n → (T (has S d) → ⊥) → take L (drop (d * L) stripe) ≡ body_part file d
  unfolding part
  strip-is d l f =
      let whole = each part (range 0 n) in
      let z : 0 ≡ 0 * L = omega arith in
      let here : Stands whole (d * L) (part d) =
      each_out part (λ i. i * L) whole n follow (subst (λ (at : ℕ). Stands whole at whole) z (stands_self whole)) d l in
      ap (λ (l : List ℕ). take L (drop (d * L) l)) stripe-is ∙ stands-take whole (d * L) L (part d) (length_part d l) here
      ∙ if_false (has S d) (replicate L 0) (body_part file d) f

  -- ---- the layout

  length_at : Stands file 4 (bytes 4 L)
  unfolding length_in
  length_at = stands-field file 4 4 L b (omega (arith, r.long)) r.strip_length

  many_at : Stands file 8 (bytes 2 (entry_count n))
  unfolding entry_count_in
  many_at = stands-field file 8 2 (entry_count n) b (omega (arith, r.long)) r.many

  -- the contents lie within the file
  contents : 20 ≤ length file
  unfolding body_at strips_at bodies_at entry_count
  contents = omega (arith, r.size)

  card_entry_at : Stands file 10 (entry 0 0 (bodies_at (entry_count n)) (length card))
  unfolding entry_in offset_in body_length_in
  card_entry_at =
      take-stands file 10 10 (entry 0 0 (bodies_at (entry_count n)) (length card)) (length-entry 0 0 (bodies_at (entry_count n)) (length card))
      (entry-back (entry_in file 0) (bytes_part 10 10 file b) (length-take-le 10 (drop 10 file) (omega (arith, length-drop 10 file, contents)))
      ∙ ap₂ (λ (x y : ℕ). entry x y (offset_in file 0) (body_length_in file 0)) r.card_kind r.card_disk
      ∙ ap₂ (entry 0 0) r.card_at (r.card_length_lem ∙ sym r.card_size))

  entries_at : (i : ℕ) → i < n → Stands file (10 + 10 * suc i) (strip_entry start L S i)
  unfolding entry_in
  entries_at i l =
      take-stands file (10 + 10 * suc i) 10 (strip_entry start L S i) (length-strip-entry start L S i)
      (r.entries i l ∙ ap (λ (at : ℕ). strip_entry at L S i) (sym at-start))

  card_at : Stands file (bodies_at (entry_count n)) card
  unfolding body_in
  card_at =
      take-stands file (bodies_at (entry_count n)) (card_length m) card r.card_size
      (ap₂ (λ (n at : ℕ). take n (drop at file)) (sym r.card_length_lem) (sym r.card_at))

  bodies_at_lem : (i : ℕ) → i < n → Stands file (body_at start L S i) (strip_body L S stripe i)
  unfolding strip_body
  bodies_at_lem i l = go (dec (has S i))
    where
      go : T (has S i) ⊎ (T (has S i) → ⊥) → Stands file (body_at start L S i) (strip_body L S stripe i)
      go (inl t) = subst (Stands file (body_at start L S i)) (sym (if_true (has S i) [] (take L (drop (i * L) stripe)) t)) refl
      go (inr f) =
          subst (Stands file (body_at start L S i)) (sym (if_false (has S i) [] (take L (drop (i * L) stripe)) f ∙ strip-is i l f))
          (take-stands file (body_at start L S i) L (body_part file i) (length-body file k m L S e i l f)
          (ap (λ (at : ℕ). take L (drop (body_at at L S i) file)) at-start ∙ sym (body_part_lem file k m L S e i l f)))

  laid : Laid card n L S stripe file
  laid = record {
    mark_at = r.mark_is;
    length_at = length_at;
    many_at = many_at;
    card_entry_at = card_entry_at;
    entries_at = entries_at;
    card_at = card_at;
    bodies_at_lem = bodies_at_lem;
  }

  set_ok_lem : set_ok C S ≡ true
  unfolding set_ok
  set_ok_lem = lt-ltb S (2 ^ disks C) (subst (λ (n : ℕ). S < 2 ^ n) (sym n-is) r.lost_lt)

  -- T is the file's length
  size : record_length C L S ≡ length file
  unfolding record_length
  size = ap₂ (λ (x y : ℕ). body_at (strips_at x (card_length y)) L S x) n-is r.is_m ∙ sym r.size

  is_record : file ≡ record_bytes card n L S stripe
  is_record =
      laid-is card n L S stripe (omega (arith, length-stripe)) file (r.size ∙ ap (λ (at : ℕ). body_at at L S n) (sym at-start)) laid

  pub rewritten : (output : List ℕ) → length output ≡ length file
      → (record_write_report (body_in file 0) L S (length (stripe_in (disks C) L S file)) (length output) ≡ accepted (length file ∷ []))
      × (record_write_output (body_in file 0) L S (stripe_in (disks C) L S file) output ≡ file)
  unfolding record_write_output
  rewritten output q =
      let card_ok = r.card_ok ∙ ap₂ (λ (x y : ℕ). accepted (x ∷ y ∷ [])) (sym r.is_k) (sym r.is_m) in
      let past : length output ≤ record_length C L S = omega (arith, size) in
      let s = stripe_in (disks C) L S file in
      let long : length s ≡ disks C * L = rw n-is length-stripe in
      let ok : record_write_report card L S (length s) (length output) ≡ accepted (record_length C L S ∷ []) =
      record_accepted card L S (length s) (length output) card_ok r.length_ok_lem set_ok_lem long (omega (arith, size)) in (
        ok ∙ ap (λ (x : ℕ). accepted (x ∷ [])) size,
        unless_accepted _ (record_length C L S ∷ []) (record_bytes card (disks C) L S s ++ drop (record_length C L S) output) output ok
            ∙ ap (λ (l : List ℕ). record_bytes card (disks C) L S s ++ l) (drop_of_length-le output past)
            ∙ append-nil (record_bytes card (disks C) L S s) ∙ ap (λ (n : ℕ). record_bytes card n L S (stripe_in n L S file)) n-is ∙ sym is_record,
      )
