-- What is known of a call that the record writer accepts, and what is read from the record that it writes.
-- Assumes nothing.
use mathlib.Core.Path.{◌≡◌, sym, ap, ◌∙◌, subst}
use mathlib.Core.Bool.{true}
use mathlib.Core.List.{List, [], ◌∷◌}
use Prim.Native.Nat.{ℕ, ◌*◌, ◌≤◌, ◌<◌}
use native.Mathlib.Nat.{le_refl}
use native.Mathlib.Omega.{arith}
use borrow.Author.Tests.{le-ltb, ltb-false}
use lib.Dec.{T, ltb}
use lib.ListN.{length, get_or, take, drop}
use Rattle.gf2.specs.Sets.{has}
use Rattle.gf2.proofs.Tests.{if_false}
use Rattle.flat.specs.Lists.{padded}
use Rattle.flat.specs.Cards.{Code, disks, set_ok, code_of, card_length, edition_one}
use Rattle.flat.specs.Strips.{length_ok}
use Rattle.flat.specs.Faults.{Report, accepted, refused, card_report, card_columns}
use Rattle.flat.proofs.Tested.{Passed, tests_past, tests_passed as passes}
use Rattle.flat.proofs.Reports.{passed-number, unless_accepted, with_accepted, with_out}
use Rattle.flat.proofs.Editions.{accepted-card, card-accepted, one_size}
use Rattle.record_format.specs.Records.{strips_at, body_at, record_length, strip_body, record_bytes, body_in}
use Rattle.record_format.specs.Faults.{record_write_tests, record_write_report, record_report, record_columns, body_report, body_part}
use Rattle.record_format.proofs.Standing.{Stands, stands-take}
use Rattle.record_format.proofs.Places.{strip-room, length-strip}
use Rattle.record_format.proofs.Parts.{Laid, length_record, record_laid}
use Rattle.record_format.proofs.Laid.{card-is, laid-read}
use Rattle.record_format.proofs.Bodies.{body-accepted, body-lost, body_part_lem}

-- what the writer's tests tell of a code that passes them
pub record Recordable (C : Code) (L S n p : ℕ) : Type 0 where
  pub passed : Passed C L S n
  pub room : record_length C L S ≤ p
  pub answer : record_write_tests C L S n p ≡ accepted (record_length C L S ∷ [])

pub record_passed : (C : Code) (L S n p : ℕ) → (record_write_tests C L S n p).number ≡ 0 → Recordable C L S n p
unfolding record_write_tests
record_passed C L S n p e =
    let t = passes C L S n _ e in
    let past = tests_past C L S n _ t in
    let d = passed-number (ltb p (record_length C L S)) 15 [] (accepted (record_length C L S ∷ [])) (sym (ap (λ (r : Report). r.number) past) ∙ e) in
    record { passed = t; room = ltb-false p (record_length C L S) d.0; answer = past ∙ d.2 }

pub record_accepted : (card : List ℕ) (L S n p : ℕ) → card_report (edition_one card) ≡ accepted ((code_of (edition_one card)).k ∷ (code_of (edition_one card)).m ∷ []) → length_ok L ≡ true
    → set_ok (code_of (edition_one card)) S ≡ true → n ≡ disks (code_of (edition_one card)) * L → record_length (code_of (edition_one card)) L S ≤ p
    → record_write_report card L S n p ≡ accepted (record_length (code_of (edition_one card)) L S ∷ [])
unfolding record_write_report record_write_tests
record_accepted card L S n p c l s e h =
    with_accepted (edition_one card) ((code_of (edition_one card)).k ∷ (code_of (edition_one card)).m ∷ []) (λ C. record_write_tests C L S n p) c
    ∙ tests_past (code_of (edition_one card)) L S n _ (record { length_ok_lem = l; set_ok_lem = s; size = e }) ∙ simp (le-ltb p (record_length (code_of (edition_one card)) L S) h)

pub recordable : (card : List ℕ) (L S n p len : ℕ) → record_write_report card L S n p ≡ accepted (len ∷ [])
    → (card_report (edition_one card) ≡ accepted ((code_of (edition_one card)).k ∷ (code_of (edition_one card)).m ∷ [])) × Recordable (code_of (edition_one card)) L S n p × (record_length (code_of (edition_one card)) L S ≡ len)
unfolding record_write_report
recordable card L S n p len e =
    let w = with_out (edition_one card) (len ∷ []) (λ C. record_write_tests C L S n p) e in
    let t = record_passed (code_of (edition_one card)) L S n p (ap (λ (r : Report). r.number) w.1) in
    (card-accepted (edition_one card) w.0, t, ap (λ (r : Report). get_or r.values 0 0) (sym t.answer ∙ w.1))

-- what is read from the record of a stripe
abbrev pub Read : (card stripe : List ℕ) (L S : ℕ) → List ℕ → Type 0
Read card stripe L S file =
    (record_report file ≡ accepted ((code_of (edition_one card)).k ∷ (code_of (edition_one card)).m ∷ L ∷ S ∷ []))
    × (record_columns file ≡ card_columns (edition_one card))
    × ((d : ℕ) → d < disks (code_of (edition_one card)) → (T (has S d) → ⊥) → (body_report file d ≡ accepted []) × (body_part file d ≡ take L (drop (d * L) stripe)))
    × ((d : ℕ) → d < disks (code_of (edition_one card)) → T (has S d) → body_report file d ≡ refused 16 [])

module _ (card stripe : List ℕ) (L S n p : ℕ) (ok : card_report (edition_one card) ≡ accepted ((code_of (edition_one card)).k ∷ (code_of (edition_one card)).m ∷ []))
    (w : Recordable (code_of (edition_one card)) L S n p) (sized : length stripe ≡ n) where
  abbrev C : Code
  C = code_of (edition_one card)

  abbrev file : List ℕ
  file = record_bytes card (disks C) L S stripe

  all : disks C * L ≤ length stripe
  all = omega (arith, sized, w.passed.size, le_refl (disks C * L))

  -- where the first strip's body goes
  at-start : strips_at (disks C) (length card) ≡ strips_at (disks C) (card_length C.m)
  at-start = ap (strips_at (disks C)) (one_size card C.k C.m (accepted-card (edition_one card) C.k C.m ok))

  pub record_length_lem : length (record_bytes card (disks (code_of (edition_one card))) L S stripe) ≡ record_length (code_of (edition_one card)) L S
  unfolding record_length
  record_length_lem = length_record card (disks C) L S stripe all ∙ ap (λ (at : ℕ). body_at at L S (disks C)) at-start

  laid : Laid card (disks C) L S stripe file
  laid = record_laid card (disks C) L S stripe all

  read : record_report file ≡ accepted (C.k ∷ C.m ∷ L ∷ S ∷ [])
  read = laid-read card L S stripe file ok w.passed.length_ok_lem w.passed.set_ok_lem record_length_lem laid

  card-there : body_in file 0 ≡ card
  card-there = card-is card L S stripe file ok w.passed.length_ok_lem w.passed.set_ok_lem record_length_lem laid

  columns : record_columns file ≡ card_columns (edition_one card)
  unfolding record_columns card_columns
  columns =
      ap (padded 16)
      (unless_accepted (record_report file) _ (code_of (edition_one (body_in file 0))).columns [] read ∙ ap (λ (c : List ℕ). (code_of (edition_one c)).columns) card-there
      ∙ sym (unless_accepted (card_report (edition_one card)) _ C.columns [] ok))

  body : (d : ℕ) → d < disks C → (T (has S d) → ⊥) → body_part file d ≡ take L (drop (d * L) stripe)
  unfolding disks strip_body
  body d l f =
      let strip = take L (drop (d * L) stripe) in
      let is : strip_body L S stripe d ≡ strip = if_false (has S d) [] strip f in
      body_part_lem file C.k C.m L S read d l f ∙ ap (λ (at : ℕ). take L (drop (body_at at L S d) file)) (sym at-start)
      ∙ stands-take file (body_at (strips_at (disks C) (length card)) L S d) L strip (length-strip d L stripe (strip-room d (disks C) L (length stripe) l all))
      (subst (Stands file (body_at (strips_at (disks C) (length card)) L S d)) is (laid.bodies_at_lem d l))

  pub record_read : Read card stripe L S (record_bytes card (disks (code_of (edition_one card))) L S stripe)
  unfolding disks
  record_read = (
    read,
    columns,
    (λ d l f. (body-accepted file C.k C.m L S read d l f, body d l f)),
    (λ d l t. body-lost file C.k C.m L S read d l t),
  )
