-- What a caller of the card check knows from its answer: that its own answer for a good card is that for the card's code, and for a bad card
-- the card's fault; and of a good card its counts, its columns and its wears.
-- Assumes nothing.
use mathlib.Core.Path.{◌≡◌, sym, ap, ◌∙◌, subst}
use mathlib.Core.List.{List, [], ◌∷◌}
use Prim.Native.Nat.{ℕ, ◌+◌, ◌*◌, ◌^◌, ◌≤◌, ◌<◌}
use native.Mathlib.Omega.{arith}
use lib.ListN.{length, get_or, take, drop, length-take, length-drop, length-replicate}
use lib.Seq.{length-take-le}
use Rattle.std.specs.Prelude.{Ok, Err}
use Rattle.flat.specs.declared.Edition.{Edition}
use Rattle.flat.specs.declared.Edition.TheVariants.{First, Second}
use Rattle.flat.specs.Lists.{padded}
use Rattle.flat.specs.Cards.{Code, disks, card_length, columns_in, code_in, Card, card_of, edition_one, edition_length, wear_count, start, parity_count, column_bytes, code_of, each_wear, wears_of}
use Rattle.flat.specs.Faults.{Report, accepted, card_report, card_columns, with_card}
use Rattle.flat.proofs.Lists.{take-padded}
use Rattle.flat.proofs.Reports.{with_accepted}
use Rattle.flat.proofs.Cards.{count_in, column_in, none_bad, length-columns, column-at}
use Rattle.flat.proofs.RoundTrip.{columns-read}
use Rattle.flat.proofs.Editions.{accepted-card, some_wear}
use Rattle.card.specs.declared.CardFault.{CardFault}
use Rattle.card.specs.Codes.{Legal}
use Rattle.card.specs.Columns.{Columns}
use Rattle.card.specs.Editions.{Whole, held_bytes, Worn}
use Rattle.card.specs.Reports.{fault_report, report}
use Rattle.card.proofs.Inside.{legal}
use Rattle.card.proofs.Places.{length_parts, wears_are}
use Rattle.card.proofs.Laws.{unless_fault}

-- ---- what the caller's call answers, by the clauses `value` and `code` of `card::check`. A caller whose definition is a `with_card` names these
-- two laws and the definition on its function, and the check finds its proof:
--   #[tactic(auto, using(card::proofs::Callers::good_with, card::proofs::Callers::bad_card), unfolding(flat::specs::Faults::encode_report))]

module _ (e : Edition) (bs : List ℕ) (answer : Code → Report) where
  pub good_with : (C : Code) (r : Report) → report (Ok C) ≡ card_report (card_of e bs) → C ≡ code_of (card_of e bs) → r ≡ answer C
      → r ≡ with_card (card_of e bs) answer
  good_with C r value is h = h ∙ sym (with_accepted (card_of e bs) (C.k ∷ C.m ∷ []) answer (sym value) ∙ ap answer (sym is))

  pub bad_card : (f : CardFault) → report (Err f) ≡ card_report (card_of e bs) → fault_report f ≡ with_card (card_of e bs) answer
  unfolding with_card
  bad_card f value = value ∙ sym (unless_fault f (card_report (card_of e bs)) (answer (code_of (card_of e bs))) (card_report (card_of e bs)) value)

-- ---- a card that the check found good

pub record GoodCard (card : Card) (C : Code) : Type 0 where
  pub size : length card.bytes ≡ edition_length card.edition C
  -- its parts
  pub whole : Whole card
  pub columns : Columns C.k C.m (column_bytes card)
  pub legal : Legal C
  -- what `card::wears` requires, and what holds of the wears that it answers
  pub worn : Worn card (disks C)
  pub each_disk : length (wears_of card) ≡ disks C
  pub wears : (i : ℕ) → i < disks C → 1 ≤ get_or (wears_of card) i 0
  pub found : card_report card ≡ accepted (C.k ∷ C.m ∷ [])
  pub is : code_of card ≡ C

-- a card has as many wears as disks
each-length : (e : Edition) (n : ℕ) (ws : List ℕ) → length ws ≡ wear_count e n → length (each_wear e n ws) ≡ n
unfolding each_wear wear_count
each-length First n ws h = length-replicate n 1
each-length Second n ws h = h

good_in : (card : Card) (k m : ℕ) → accepted (k ∷ m ∷ []) ≡ card_report card → GoodCard card (code_in k m (column_bytes card))
unfolding disks
good_in card k m e =
    let a = accepted-card card k m (sym e) in
    let s = a.sound in
    let edition = card.edition in
    let bs = column_bytes card in
    let n : length (columns_in m bs) ≡ m = length-columns m bs in
    let size = a.size ∙ length_parts edition k m (columns_in m bs) in
    let many = a.parity_count_lem in
    let whole : Whole card = (omega arith, omega arith) in
    let held : length (held_bytes card) ≡ wear_count edition (k + m) = length-drop (start edition + 2 + 2 * parity_count card) card.bytes ∙ omega arith in
    let kIn = count_in k s.k_ok in
    let mIn = count_in m s.m_ok in
    let both : k + m ≡ disks (code_of card) = ap (λ (C : Code). disks C) (sym a.is) in
    let each : length (wears_of card) ≡ k + m =
    ap length (wears_are edition card.bytes ∙ ap (λ (x : ℕ). each_wear edition x (held_bytes card)) (sym both)) ∙ each-length edition (k + m) (held_bytes card) held in
    let columns : Columns k m bs = (
      kIn.0,
      kIn.1,
      mIn.0,
      mIn.1,
      length-take-le (2 * parity_count card) (drop (start edition + 2) card.bytes) (omega (arith, length-drop (start edition + 2) card.bytes)) ∙ ap (λ (x : ℕ). 2 * x) many,
      λ j l. subst (λ (c : ℕ). c < 2 ^ k) (column-at m bs j l)
          (column_in k _ (none_bad k (columns_in m bs) (omega (arith, s.first)) j (omega arith))).1,
    ) in
    record {
      size = a.size;
      whole = whole;
      columns = columns;
      legal = legal k m bs columns;
      worn = (whole, both, omega arith, held);
      each_disk = each;
      wears = λ i l. some_wear (wears_of card) a.worn i (omega arith);
      found = sym e;
      is = a.is;
    }

pub good : (e : Edition) (bs : List ℕ) (C : Code) → report (Ok C) ≡ card_report (card_of e bs) → C ≡ code_of (card_of e bs) → GoodCard (card_of e bs) C
good e bs C value is =
    let card = card_of e bs in
    subst (GoodCard card) (sym (is ∙ (accepted-card card C.k C.m (sym value)).is)) (good_in card C.k C.m value)

-- the wears of its disks, out of what `card::wears` answers
module _ (card : Card) (C : Code) (g : GoodCard card C) (wears : List ℕ) (e : wears ≡ padded 32 (wears_of card)) where
  pub wears_taken : take (disks C) wears ≡ wears_of card
  wears_taken = ap (take (disks C)) e ∙ take-padded 32 (disks C) (wears_of card) g.each_disk

  pub wears_fit : (disks C ≤ length wears) × (disks C ≡ length (take (disks C) wears))
  wears_fit =
      let n : length (take (disks C) wears) ≡ disks C = ap length wears_taken ∙ g.each_disk in
      (omega (arith, length-take (disks C) wears), sym n)

-- a good card of edition 1 has its counts and columns, and no more
pub one-length : (bs : List ℕ) (C : Code) → GoodCard (edition_one bs) C → length bs ≡ 2 + 2 * C.m
unfolding edition_length card_length
one-length bs C g = g.size

-- the columns, out of what `Code::columns` answers
pub columns_given : (e : Edition) (bs : List ℕ) (C : Code) → report (Ok C) ≡ card_report (card_of e bs) → C ≡ code_of (card_of e bs)
    → (columns : List ℕ) → columns ≡ padded 16 C.columns → columns ≡ card_columns (card_of e bs)
columns_given e bs C value is columns given =
    let card = card_of e bs in
    given ∙ ap (λ (D : Code). padded 16 D.columns) (is ∙ (accepted-card card C.k C.m (sym value)).is) ∙ sym (columns-read card C.k C.m (sym value))
