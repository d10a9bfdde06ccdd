-- The report of a card at each way out of the check's tests, by what the check has read so far.
-- Assumes nothing.
use mathlib.Core.Path.{◌≡◌, sym, ap, ap₂, ◌∙◌}
use mathlib.Core.Bool.{Bool, true, false}
use mathlib.Core.Logic.{◌≢◌}
use mathlib.Core.List.{List, [], ◌∷◌}
use Prim.Native.Nat.{ℕ, ◌+◌, ◌*◌, ◌≤◌, ◌<◌}
use native.Mathlib.Omega.{arith}
use borrow.Author.Tests.{lt-ltb, le-ltb, eq-eqb, ne_eqb}
use lib.Dec.{eqb}
use lib.ListN.{length, get_or, drop, length-drop}
use lib.Seq.{length-take-le}
use Rattle.std.specs.Prelude.{if◌then◌else◌}
use Rattle.flat.specs.declared.Edition.{Edition}
use Rattle.flat.specs.Lists.{member}
use Rattle.flat.specs.Cards.{Code, code, count_ok, first_bad, columns_in, code_in, Card, card_of, edition_length, wear_count, start, first_byte_ok, data_count, parity_count, column_bytes, code_of, disks, wears_of}
use Rattle.flat.specs.Faults.{Report, accepted, refused, code_report, card_report}
use Rattle.flat.proofs.RoundTrip.{own-worn}
use Rattle.flat.proofs.Cards.{count_in}
use Rattle.card.specs.Editions.{Long, Counted, Whole, held_bytes}
use Rattle.card.proofs.Places.{length_parts, wears_are}
use Rattle.card.proofs.Laws.{code_data, code-parity, code-length, code-column, code_good}

module _ (e : Edition) (bs : List ℕ) where
  abbrev card : Card
  card = card_of e bs

  pub short-card : (at : ℕ) → at ≡ start e → length bs < at + 2 → refused 1 [] ≡ card_report card
  unfolding card_report
  short-card at begins h = let l : length bs < start e + 2 = omega arith in simp (lt-ltb _ _ l)

  pub both-counts : (at : ℕ) → at ≡ start e → at + 2 ≤ length bs → Long card
  both-counts at begins h = omega arith

  pub data-read : (at : ℕ) → at ≡ start e → get_or bs at 0 ≡ data_count card
  data-read at begins = ap (λ (i : ℕ). get_or bs i 0) begins

  module _ (long : Long card) where
    pub other_first_byte : first_byte_ok e bs ≡ false → refused 22 [] ≡ card_report card
    unfolding card_report
    other_first_byte h = simp (le-ltb _ _ long, h)

    -- past these tests a card's report is that of its code, and then of its wears
    module _ (begins : first_byte_ok e bs ≡ true) (k m : ℕ) (data_is : k ≡ data_count card) (parity-is : m ≡ parity_count card) where
      next : Report
      next = if member 0 (wears_of card) then refused 23 [] else accepted (k ∷ m ∷ [])

      C : Code
      C = code_in k m (column_bytes card)

      is-report : card_report card ≡ code_report C (eqb (length bs) (edition_length e C)) next
      unfolding card_report code_of next C
      is-report = simp (le-ltb _ _ long, begins) (rw (sym data_is, sym parity-is))

      pub bad_data : count_ok k ≡ false → refused 2 [] ≡ card_report card
      unfolding C
      bad_data h = code_data C _ next h ∙ sym is-report

      module _ (data-ok : count_ok k ≡ true) where
        pub bad_parity : count_ok m ≡ false → refused 3 [] ≡ card_report card
        unfolding C
        bad_parity h = code-parity C _ next data-ok h ∙ sym is-report

        pub counted : count_ok m ≡ true → Counted card k m
        counted parity-ok = (long, begins, data_is, parity-is, data-ok, parity-ok)

  module _ (k m : ℕ) (c : Counted card k m) where
    last : Report
    last = next c.0 c.1 k m c.2 c.3

    D : Code
    D = C c.0 c.1 k m c.2 c.3

    sized-report : card_report card ≡ code_report D (eqb (length bs) (edition_length e D)) last
    unfolding D last
    sized-report = is-report c.0 c.1 k m c.2 c.3

    pub counts_small : (k ≤ 16) × (m ≤ 16)
    counts_small = ((count_in _ c.4).1, (count_in _ c.5).1)

    module _ (n : ℕ) (size : n ≡ edition_length e (code k m [])) where
      sized : n ≡ edition_length e D
      unfolding D C
      sized = size ∙ length_parts e k m [] ∙ sym (length_parts e k m (columns_in m (column_bytes card)))

      pub bad_length : length bs ≢ n → refused 4 [] ≡ card_report card
      unfolding D C
      bad_length h = code-length D _ last c.4 c.5 (ne_eqb _ _ (λ x. h (x ∙ sym sized))) ∙ sym sized-report

      module _ (whole : length bs ≡ n) where
        pub is_whole : Whole card
        is_whole = let l = length_parts e k m [] in let q = c.3 in (c.0, omega arith)

        pub columns-long : (columns : List ℕ) → columns ≡ column_bytes card → 2 * m ≤ length columns
        columns-long columns h =
            let l = is_whole.1 in
            let q = c.3 in
            let b = length-take-le (2 * parity_count card) (drop (start e + 2) bs) (omega (arith, length-drop (start e + 2) bs)) in
            rw h (omega arith)

        module _ (bad : ℕ) (columns : List ℕ) (lent : columns ≡ column_bytes card) (found : bad ≡ first_bad k (columns_in m columns)) where
          first : bad ≡ first_bad k (columns_in m (column_bytes card))
          first = found ∙ rw lent

          pub bad_column : bad < m → refused 5 (bad ∷ []) ≡ card_report card
          unfolding D C
          bad_column h = code-column D _ last c.4 c.5 (eq-eqb _ _ (whole ∙ sized)) bad first h ∙ sym sized-report

          module _ (none : m ≤ bad) (held : List ℕ) (those : held ≡ held_bytes card) where
            zero_held : member 0 held ≡ member 0 (wears_of card)
            unfolding code_of disks
            zero_held =
                let l = length_parts e k m [] in
                let w : wear_count e (k + m) ≡ wear_count e (data_count card + parity_count card) = ap₂ (λ (x y : ℕ). wear_count e (x + y)) c.2 c.3 in
                let q = c.3 in
                ap (member 0) those
                ∙ sym (own-worn e (data_count card + parity_count card) (held_bytes card) (length-drop (start e + 2 + 2 * parity_count card) bs ∙ omega arith))
                ∙ ap (member 0) (sym (wears_are e bs))

            passed : last ≡ card_report card
            unfolding D C
            passed = code_good D _ last c.4 c.5 (eq-eqb _ _ (whole ∙ sized)) bad first none ∙ sym sized-report

            pub zero_wear : true ≡ member 0 held → refused 23 [] ≡ card_report card
            unfolding last next
            zero_wear h = ap (λ (b : Bool). if b then refused 23 [] else accepted (k ∷ m ∷ [])) (h ∙ zero_held) ∙ passed

            pub good_card : false ≡ member 0 held → accepted (k ∷ m ∷ []) ≡ card_report card
            unfolding last next
            good_card h = ap (λ (b : Bool). if b then refused 23 [] else accepted (k ∷ m ∷ [])) (h ∙ zero_held) ∙ passed
