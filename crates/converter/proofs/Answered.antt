-- What the converter answers, and leaves in the buffer, at each way out of its tests.
-- Assumes nothing.
use mathlib.Core.Path.{◌≡◌, refl, sym, ap, ap₂, ◌∙◌}
use mathlib.Core.Bool.{Bool, true, false, ◌&&◌}
use mathlib.Core.Logic.{◌≢◌}
use mathlib.Core.List.{List, [], ◌∷◌}
use Prim.Native.Nat.{ℕ, ◌+◌, ◌≤◌}
use borrow.Author.Tests.{ne_eqb}
use lib.Dec.{eqb}
use lib.ListN.{length, take}
use Rattle.std.specs.List.{list_all}
use Rattle.flat.specs.declared.Edition.{Edition}
use Rattle.flat.specs.declared.Edition.TheVariants.{First, Second}
use Rattle.flat.specs.Cards.{Code, code, disks, columns_in, code_in, Card, card_of, edition_one, edition_two, edition_bytes, edition_length, column_bytes, code_of, wears_of}
use Rattle.flat.specs.Faults.{Report, accepted, refused, card_report, card_columns, card_wears, card_write_report, card_write_buffer}
use Rattle.flat.proofs.Lists.{take-padded}
use Rattle.flat.proofs.Reports.{unless_accepted, unless_refused_lem, with_accepted}
use Rattle.flat.proofs.Cards.{length-columns}
use Rattle.flat.proofs.Editions.{accepted-card}
use Rattle.flat.proofs.RoundTrip.{columns-read, wears-read, write-accepted, one_writable}
use Rattle.card.specs.declared.CardFault.{CardFault}
use Rattle.card.specs.Reports.{fault_report}
use Rattle.card.proofs.Laws.{unless_fault}
use Rattle.card.proofs.Places.{length_parts}
use Rattle.card.proofs.Callers.{GoodCard, bad_card, good, wears_taken}
use Rattle.editions.specs.Converting.{all_one, up_tests, up_report, up_buffer, down_tests, down_report, down_buffer}
use Rattle.editions.proofs.Converted.{whole, up_writable, up-accepts, down-accepts, down_refuses}

-- what `all` answers
pub all_tested : (ws : List ℕ) → list_all (λ w. eqb w 1) ws ≡ all_one ws
unfolding all_one
all_tested [] = refl
all_tested (w ∷ ws) = ap (λ (b : Bool). eqb w 1 && b) (all_tested ws)

-- ---- a refused card

module _ (card : List ℕ) (f : CardFault) (out : List ℕ) where
  module _ (bad : card_report (edition_one card) ≡ fault_report f) where
    pub bad_up : fault_report f ≡ up_report card (length out)
    unfolding up_report
    bad_up = bad_card First card (λ C. up_tests C (length out)) f (sym bad)

    pub bad_up_kept : out ≡ up_buffer card out
    unfolding up_buffer
    bad_up_kept = sym (unless_fault f (up_report card (length out)) _ out bad_up)

  module _ (bad : card_report (edition_two card) ≡ fault_report f) where
    pub bad_down : fault_report f ≡ down_report card (length out)
    unfolding down_report
    bad_down = bad_card Second card (λ C. down_tests C (wears_of (edition_two card)) (length out)) f (sym bad)

    pub bad_down_kept : out ≡ down_buffer card out
    unfolding down_buffer
    bad_down_kept = sym (unless_fault f (down_report card (length out)) _ out bad_down)

-- ---- what the card reader answers of a good card: its code and its wears

module _ (e : Edition) (bs : List ℕ) (k m : ℕ) (counts : card_report (card_of e bs) ≡ accepted (k ∷ m ∷ [])) where
  abbrev card : Card
  card = card_of e bs

  known : GoodCard card (code_in k m (column_bytes card))
  known = good e bs _ (sym counts) (sym (accepted-card card k m counts).is)

  pub ok : (card_report card).number ≡ 0
  ok = ap (λ (r : Report). r.number) counts

  pub counts_small : (k ≤ 16) × (m ≤ 16)
  counts_small = let h = known.columns in (h.1, h.3)

  pub code_read : (columns : List ℕ) → columns ≡ card_columns card → code k m (take m columns) ≡ code_of card
  code_read columns h =
      ap (λ (cs : List ℕ). code k m (take m cs)) (h ∙ columns-read card k m counts)
      ∙ ap (code k m) (take-padded 16 m (columns_in m (column_bytes card)) (length-columns m (column_bytes card))) ∙ sym known.is

  pub worn : (wears : List ℕ) → wears ≡ card_wears card → take (k + m) wears ≡ wears_of card
  unfolding disks
  worn wears h = wears_taken card _ known wears (h ∙ wears-read card k m counts)

  -- the other edition's length
  pub other_length : (to : Edition) (n : ℕ) → n ≡ edition_length to (code k m []) → n ≡ edition_length to (code_of card)
  other_length to n h =
      h ∙ length_parts to k m [] ∙ sym (length_parts to k m (columns_in m (column_bytes card))) ∙ ap (edition_length to) (sym known.is)

-- ---- up

module _ (bs : List ℕ) (k m : ℕ) (counts : card_report (edition_one bs) ≡ accepted (k ∷ m ∷ [])) (n : ℕ) (long : n ≡ edition_length Second (code k m [])) (out : List ℕ) where
  pub other_up : length out ≢ n → refused 7 [] ≡ up_report bs (length out)
  unfolding up_report up_tests
  other_up h =
      sym (with_accepted (edition_one bs) _ (λ C. up_tests C (length out)) counts
      ∙ simp (ne_eqb (length out) (edition_length Second (code_of (edition_one bs))) (λ e. h (e ∙ sym (other_length First bs k m counts Second n long)))))

  pub other_up_kept : length out ≢ n → out ≡ up_buffer bs out
  unfolding up_buffer
  other_up_kept h = sym (unless_refused_lem (up_report bs (length out)) 6 [] _ out (sym (other_up h)))

  module _ (h : length out ≡ n) where
    size_up : length out ≡ edition_length Second (code_of (edition_one bs))
    size_up = h ∙ other_length First bs k m counts Second n long

    pub done_up : accepted [] ≡ up_report bs (length out)
    done_up = sym (up-accepts bs (ok First bs k m counts) (length out) size_up)

    pub written_up : (columns wears new : List ℕ) → columns ≡ card_columns (edition_one bs) → wears ≡ card_wears (edition_one bs)
        → new ≡ card_write_buffer Second (code k m (take m columns)) (take (k + m) wears) out → new ≡ up_buffer bs out
    unfolding up_buffer card_write_buffer
    written_up columns wears new cs ws e =
        let C = code_of (edition_one bs) in
        let vs = wears_of (edition_one bs) in
        let w = write-accepted Second C vs (length out) (up_writable bs (ok First bs k m counts) (length out) size_up) in
        e ∙ ap₂ (λ (D : Code) (us : List ℕ). card_write_buffer Second D us out) (code_read First bs k m counts columns cs) (worn First bs k m counts wears ws)
        ∙ unless_accepted (card_write_report Second C vs (length out)) [] (edition_bytes Second C vs) out w
        ∙ sym (unless_accepted (up_report bs (length out)) [] (edition_bytes Second C vs) out (sym done_up))

-- ---- down

module _ (bs : List ℕ) (k m : ℕ) (counts : card_report (edition_two bs) ≡ accepted (k ∷ m ∷ [])) (n : ℕ) (long : n ≡ edition_length First (code k m [])) (out : List ℕ) where
  pub other_down : length out ≢ n → refused 7 [] ≡ down_report bs (length out)
  unfolding down_report down_tests
  other_down h =
      sym (with_accepted (edition_two bs) _ (λ C. down_tests C (wears_of (edition_two bs)) (length out)) counts
      ∙ simp (ne_eqb (length out) (edition_length First (code_of (edition_two bs))) (λ e. h (e ∙ sym (other_length Second bs k m counts First n long)))))

  pub other_down_kept : length out ≢ n → out ≡ down_buffer bs out
  unfolding down_buffer
  other_down_kept h = sym (unless_refused_lem (down_report bs (length out)) 6 [] _ out (sym (other_down h)))

  module _ (h : length out ≡ n) (wears : List ℕ) (ws : wears ≡ card_wears (edition_two bs)) where
    size_down : length out ≡ edition_length First (code_of (edition_two bs))
    size_down = h ∙ other_length Second bs k m counts First n long

    ones_read : all_one (take (k + m) wears) ≡ all_one (wears_of (edition_two bs))
    ones_read = ap all_one (worn Second bs k m counts wears ws)

    pub lossy_down : all_one (take (k + m) wears) ≡ false → refused 24 [] ≡ down_report bs (length out)
    lossy_down f = sym (down_refuses bs (ok Second bs k m counts) (length out) size_down (sym ones_read ∙ f))

    pub lossy_down_kept : all_one (take (k + m) wears) ≡ false → out ≡ down_buffer bs out
    unfolding down_buffer
    lossy_down_kept f = sym (unless_refused_lem (down_report bs (length out)) 23 [] _ out (sym (lossy_down f)))

    module _ (t : all_one (take (k + m) wears) ≡ true) where
      pub done_down : accepted [] ≡ down_report bs (length out)
      done_down = sym (down-accepts bs (ok Second bs k m counts) (length out) size_down (sym ones_read ∙ t))

      pub written_down : (columns new : List ℕ) → columns ≡ card_columns (edition_two bs)
          → new ≡ card_write_buffer First (code k m (take m columns)) [] out → new ≡ down_buffer bs out
      unfolding down_buffer card_write_buffer edition_length
      written_down columns new cs e =
          let C = code_of (edition_two bs) in
          let p = whole (edition_two bs) (ok Second bs k m counts) in
          let w = write-accepted First C [] (length out) (one_writable C (length out) p.sound p.many size_down) in
          e ∙ ap (λ (D : Code). card_write_buffer First D [] out) (code_read Second bs k m counts columns cs)
          ∙ unless_accepted (card_write_report First C [] (length out)) [] (edition_bytes First C []) out w
          ∙ sym (unless_accepted (down_report bs (length out)) [] (edition_bytes First C []) out (sym done_down))
