-- The card reader reads what the card writer wrote, and an accepted card is what the writer writes from what the reader answers.
-- Assumes nothing.
use mathlib.Core.Path.{◌≡◌, refl, sym, ap, ap₂, ◌∙◌}
use mathlib.Core.Bool.{true, false, not, ◌&&◌}
use mathlib.Core.List.{List, [], ◌∷◌, ◌++◌}
use Prim.Native.Nat.{ℕ, suc, ◌+◌, ◌*◌, ◌≤◌, ◌<◌}
use native.Mathlib.Nat.{lt_of_lt_of_le}
use native.Mathlib.Omega.{arith}
use borrow.Author.Tests.{eqb-true, eq-eqb, not-false}
use lib.Dec.{eqb}
use lib.Pow.{pow_mono}
use lib.ListN.{length, get_or, take, drop, length-append, length-drop, take-append-drop}
use lib.Seq.{take_at, drop_at, take_all, length-take-le}
use Rattle.gf2.proofs.Tests.{true-T, T_true, and_out}
use Rattle.flat.specs.declared.Edition.{Edition}
use Rattle.flat.specs.declared.Edition.TheVariants.{First, Second}
use Rattle.flat.specs.Lists.{Bytes, padded, each, bytes, member}
use Rattle.flat.specs.Cards.{Code, code, card_length, card_bytes, columns_in, code_in, Card, card_of, edition_bytes, edition_length, wear_count, start, first_byte_ok, column_bytes, code_of, disks, each_wear, wears_of}
use Rattle.flat.specs.Faults.{Report, accepted, card_report, card_columns, card_wears, card_write_report, card_write_buffer}
use Rattle.flat.specs.Theorems.{CardReadsBack, CardWritesBack}
use Rattle.flat.proofs.Lists.{take-padded, bytes_part}
use Rattle.flat.proofs.Reports.{passed, unless_accepted}
use Rattle.flat.proofs.Cards.{Sound, sound, sound-report, count_in, column_in, none_bad, length-columns, length-column-bytes, columns-bytes, bytes-columns}
use Rattle.flat.proofs.Editions.{Accepted, accepted-card, report-accepted, ones-worn}

-- what is known of a call that the card writer accepts for a buffer of n bytes
pub record Writable (e : Edition) (C : Code) (wears : List ℕ) (n : ℕ) : Type 0 where
  pub sound : Sound C
  pub many : length C.columns ≡ C.m
  pub each_worn : length wears ≡ wear_count e (disks C)
  pub worn : member 0 wears ≡ false
  pub size : n ≡ edition_length e C

pub writable : (e : Edition) (C : Code) (wears : List ℕ) (n : ℕ) → card_write_report e C wears n ≡ accepted [] → Writable e C wears n
unfolding card_write_report
writable e C wears n h =
    let columned = eqb (length C.columns) C.m in
    let counted = eqb (length wears) (wear_count e (disks C)) in
    let s = sound C (columned && counted) _ [] h in
    let both = and_out columned counted (true-T s.1) in
    let w = passed (member 0 wears) 22 [] [] _ s.2 in
    let t = passed (not (eqb n (edition_length e C))) 6 [] [] (accepted []) w.1 in
    record {
      sound = s.0;
      many = eqb-true _ _ (T_true {b = columned} both.0);
      each_worn = eqb-true _ _ (T_true {b = counted} both.1);
      worn = w.0;
      size = eqb-true n (edition_length e C) (not-false _ t.0);
    }

pub write-accepted : (e : Edition) (C : Code) (wears : List ℕ) (n : ℕ) → Writable e C wears n → card_write_report e C wears n ≡ accepted []
unfolding card_write_report
write-accepted e C wears n w =
    simp (eq-eqb _ _ w.many, eq-eqb _ _ w.each_worn, w.worn, eq-eqb _ _ w.size) (sound-report C (accepted []) w.sound)

-- in edition 1, with no wears
pub one_writable : (C : Code) (n : ℕ) → Sound C → length C.columns ≡ C.m → n ≡ card_length C.m → Writable First C [] n
unfolding wear_count member edition_length
one_writable C n s many size = record { sound = s; many = many; each_worn = refl; worn = refl; size = size }

-- the card writer writes a card of its edition's length
pub length-card : (C : Code) → length (card_bytes C) ≡ card_length (length C.columns)
unfolding card_bytes card_length
length-card C = let h = length-column-bytes C.columns in omega arith

pub length-edition : (e : Edition) (C : Code) (wears : List ℕ) → length C.columns ≡ C.m → length wears ≡ wear_count e (disks C)
    → length (edition_bytes e C wears) ≡ edition_length e C
unfolding edition_bytes edition_length card_length wear_count
length-edition First C wears many each = length-card C ∙ ap card_length many
length-edition Second C wears many each =
    omega (arith, length-append (card_bytes C) wears, length-card C, many, each)

-- a column of a sound code fits in two bytes
column_fits : (C : Code) → Sound C → length C.columns ≡ C.m → (j : ℕ) → j < length C.columns → get_or C.columns j 0 < 65536
column_fits C s many j h =
    lt_of_lt_of_le (column_in C.k (get_or C.columns j 0) (none_bad C.k C.columns (omega (arith, s.first)) j h)).1
    (pow_mono {j = 16} (count_in C.k s.k_ok).1)

-- what follows the columns of the second edition
after-columns : (m z x y : ℕ) (bs : List ℕ) → drop (start Second + card_length m) (z ∷ x ∷ y ∷ bs) ≡ drop (2 * m) bs
unfolding start card_length
after-columns m z x y bs = let e : 1 + (2 + 2 * m) ≡ suc (suc (suc (2 * m))) = omega arith in ap (λ (n : ℕ). drop n (z ∷ x ∷ y ∷ bs)) e

-- what a written card holds: its columns' bytes, and so its code, and its wears
module _ (C : Code) (many : length C.columns ≡ C.m) where
  columned : length (each (bytes 2) C.columns) ≡ 2 * C.m
  columned = length-column-bytes C.columns ∙ ap (λ (n : ℕ). 2 * n) many

  columns-at : (e : Edition) (wears : List ℕ) → column_bytes (card_of e (edition_bytes e C wears)) ≡ each (bytes 2) C.columns
  unfolding edition_bytes card_bytes start
  columns-at First wears = take_all (2 * C.m) (each (bytes 2) C.columns) (omega (arith, columned))
  columns-at Second wears = take_at (each (bytes 2) C.columns) wears (2 * C.m) columned

  counts-at : (e : Edition) (wears : List ℕ)
      → code_of (card_of e (edition_bytes e C wears)) ≡ code_in C.k C.m (column_bytes (card_of e (edition_bytes e C wears)))
  unfolding code_of edition_bytes card_bytes start
  counts-at First wears = refl
  counts-at Second wears = refl

  pub code-back : (e : Edition) (wears : List ℕ) → Sound C → code_of (card_of e (edition_bytes e C wears)) ≡ C
  code-back e wears s =
      counts-at e wears ∙ ap (code_in C.k C.m) (columns-at e wears)
      ∙ ap (code C.k C.m)
      (ap (λ (n : ℕ). columns_in n (each (bytes 2) C.columns)) (sym many) ∙ columns-bytes C.columns (column_fits C s many))

  pub wears-back : (e : Edition) (wears : List ℕ) → Sound C → wears_of (card_of e (edition_bytes e C wears)) ≡ each_wear e (disks C) wears
  unfolding wears_of each_wear code_of edition_bytes card_bytes card_length start
  wears-back First wears s = refl
  wears-back Second wears s =
      after-columns C.m 2 C.k C.m (each (bytes 2) C.columns ++ wears) ∙ drop_at (each (bytes 2) C.columns) wears (2 * C.m) columned

-- ---- the wears that a card holds, and a wear for each disk

none_left : (ws : List ℕ) → length ws ≡ 0 → ws ≡ []
none_left [] e = refl
none_left (w ∷ ws) e = absurd (omega arith)

-- as many as the edition has, out of a wear for each disk
own_taken : (e : Edition) (n : ℕ) (ws : List ℕ) → length ws ≡ wear_count e n → take (wear_count e n) (padded 32 (each_wear e n ws)) ≡ ws
unfolding wear_count each_wear
own_taken First n ws h = sym (none_left ws h)
own_taken Second n ws h = take-padded 32 n ws h

pub own-worn : (e : Edition) (n : ℕ) (ws : List ℕ) → length ws ≡ wear_count e n → member 0 (each_wear e n ws) ≡ member 0 ws
unfolding wear_count each_wear member
own-worn First n ws h = ones-worn n ∙ sym (ap (member 0) (none_left ws h))
own-worn Second n ws h = refl

-- ---- what is written is accepted

begins-right : (e : Edition) (C : Code) (wears : List ℕ) → first_byte_ok e (edition_bytes e C wears) ≡ true
unfolding first_byte_ok edition_bytes
begins-right First C wears = refl
begins-right Second C wears = refl

pub written-accepted : (e : Edition) (C : Code) (wears : List ℕ) (n : ℕ) → Writable e C wears n
    → card_report (card_of e (edition_bytes e C wears)) ≡ accepted (C.k ∷ C.m ∷ [])
written-accepted e C wears n w =
    report-accepted (card_of e (edition_bytes e C wears)) C (code-back C w.many e wears w.sound) w.sound
    (length-edition e C wears w.many w.each_worn) (begins-right e C wears)
    (ap (member 0) (wears-back C w.many e wears w.sound) ∙ own-worn e (disks C) wears w.each_worn ∙ w.worn)

pub reads_back : CardReadsBack
unfolding card_write_buffer card_columns card_wears
reads_back e C wears buffer h =
    let w = writable e C wears (length buffer) h in
    let bytes = edition_bytes e C wears in
    let card = card_of e bytes in
    let is : card_of e (card_write_buffer e C wears buffer) ≡ card = ap (card_of e) (unless_accepted _ [] bytes buffer h) in
    let back : code_of card ≡ C = code-back C w.many e wears w.sound in
    let ok : card_report card ≡ accepted (C.k ∷ C.m ∷ []) = written-accepted e C wears (length buffer) w in (
      ap card_report is ∙ ok,
      ap card_columns is ∙ ap (padded 16) (unless_accepted (card_report card) (C.k ∷ C.m ∷ []) (code_of card).columns [] ok ∙ ap (λ (D : Code). D.columns) back),
      ap card_wears is ∙ ap (padded 32) (unless_accepted (card_report card) (C.k ∷ C.m ∷ []) (wears_of card) [] ok ∙ wears-back C w.many e wears w.sound),
      ap code_of is ∙ back,
    )

-- ---- what the card reader answers

pub columns-read : (card : Card) (k m : ℕ) → card_report card ≡ accepted (k ∷ m ∷ []) → card_columns card ≡ padded 16 (columns_in m (column_bytes card))
unfolding card_columns
columns-read card k m e =
    ap (padded 16)
    (unless_accepted (card_report card) (k ∷ m ∷ []) (code_of card).columns [] e ∙ ap (λ (D : Code). D.columns) (accepted-card card k m e).is)

pub wears-read : (card : Card) (k m : ℕ) → card_report card ≡ accepted (k ∷ m ∷ []) → card_wears card ≡ padded 32 (wears_of card)
unfolding card_wears
wears-read card k m e = ap (padded 32) (unless_accepted (card_report card) (k ∷ m ∷ []) (wears_of card) [] e)

-- ---- an accepted card's bytes

-- the columns' bytes come back, and with what follows them are those after the counts
module _ (m : ℕ) (bs : List ℕ) (b : Bytes bs) (long : 2 * m ≤ length bs) where
  columns-again : each (bytes 2) (columns_in m (take (2 * m) bs)) ++ drop (2 * m) bs ≡ bs
  columns-again =
      ap (λ (cs : List ℕ). cs ++ drop (2 * m) bs) (bytes-columns m (take (2 * m) bs) (bytes_part 0 (2 * m) bs b) (length-take-le (2 * m) bs long))
      ∙ take-append-drop (2 * m) bs

-- the code's bytes, with the wears that follow the columns, are the card's
pub card-again : (e : Edition) (bs : List ℕ) (k m : ℕ) → Bytes bs → Accepted (card_of e bs) k m
    → edition_bytes e (code_in k m (column_bytes (card_of e bs))) (drop (start e + card_length m) bs) ≡ bs
unfolding edition_bytes card_bytes edition_length card_length start first_byte_ok disks
card-again First [] k m b a = absurd (omega (arith, a.size))
card-again First (x ∷ []) k m b a = absurd (omega (arith, a.size))
card-again First (x ∷ y ∷ bs) k m b a =
    let ex : x ≡ k = a.data_count_lem in
    let ey : y ≡ m = a.parity_count_lem in
    let n : length bs ≡ 2 * m = omega (arith, a.size) in
    ap₂ (λ (p q : ℕ). p ∷ q ∷ each (bytes 2) (columns_in q (take (2 * y) bs))) (sym ex) (sym ey)
    ∙ ap (λ (r : List ℕ). x ∷ y ∷ each (bytes 2) (columns_in y r)) (take_all (2 * y) bs (omega arith))
    ∙ ap (λ (r : List ℕ). x ∷ y ∷ r) (bytes-columns y bs (λ i. b (suc (suc i))) (omega arith))
card-again Second [] k m b a = absurd (omega (arith, a.size))
card-again Second (z ∷ []) k m b a = absurd (omega (arith, a.size))
card-again Second (z ∷ x ∷ []) k m b a = absurd (omega (arith, a.size))
card-again Second (z ∷ x ∷ y ∷ bs) k m b a =
    let ez : z ≡ 2 = eqb-true z 2 a.begins in
    let ex : x ≡ k = a.data_count_lem in
    let ey : y ≡ m = a.parity_count_lem in
    let long : 2 * y ≤ length bs = omega (arith, a.size) in
    ap (λ (r : List ℕ). 2 ∷ k ∷ m ∷ each (bytes 2) (columns_in m (take (2 * y) bs)) ++ r) (after-columns m z x y bs)
    ∙ ap (λ (q : ℕ). 2 ∷ k ∷ q ∷ each (bytes 2) (columns_in q (take (2 * y) bs)) ++ drop (2 * q) bs) (sym ey)
    ∙ ap₂ (λ (p q : ℕ). p ∷ q ∷ y ∷ each (bytes 2) (columns_in y (take (2 * y) bs)) ++ drop (2 * y) bs) (sym ez) (sym ex)
    ∙ ap (λ (r : List ℕ). z ∷ x ∷ y ∷ r) (columns-again y bs (λ i. b (suc (suc (suc i)))) long)

-- a card's own wears: those that follow its columns
abbrev pub own : Card → ℕ → List ℕ
own card m = drop (start card.edition + card_length m) card.bytes

pub own_read : (card : Card) (k m : ℕ) → Accepted card k m → wears_of card ≡ each_wear card.edition (disks (code_in k m (column_bytes card))) (own card m)
unfolding wears_of
own_read card k m a = ap (λ (D : Code). each_wear card.edition (disks D) (own card D.m)) a.is

pub own-counted : (e : Edition) (bs : List ℕ) (k m : ℕ) → Accepted (card_of e bs) k m
    → length (own (card_of e bs) m) ≡ wear_count e (disks (code_in k m (column_bytes (card_of e bs))))
unfolding start card_length edition_length wear_count disks
own-counted First bs k m a = length-drop (start First + card_length m) bs ∙ omega (arith, a.size)
own-counted Second bs k m a = length-drop (start Second + card_length m) bs ∙ omega (arith, a.size)

-- so an accepted card is one that the card writer writes
pub rewritable : (card : Card) (k m : ℕ) → Accepted card k m → Writable card.edition (code_in k m (column_bytes card)) (own card m) (length card.bytes)
rewritable card k m a =
    let counted = own-counted card.edition card.bytes k m a in
    record {
      sound = a.sound;
      many = length-columns m (column_bytes card);
      each_worn = counted;
      worn = sym (own-worn card.edition (disks (code_in k m (column_bytes card))) (own card m) counted) ∙ ap (member 0) (sym (own_read card k m a)) ∙ a.worn;
      size = a.size;
    }

pub writes_back : CardWritesBack
unfolding card_write_buffer
writes_back card k m b e buffer n =
    let edition = card.edition in
    let a = accepted-card card k m e in
    let C = code_in k m (column_bytes card) in
    let ws = own card m in
    let w = rewritable card k m a in
    let cs : take m (card_columns card) ≡ columns_in m (column_bytes card) =
    ap (take m) (columns-read card k m e) ∙ take-padded 16 m (columns_in m (column_bytes card)) w.many in
    let own_is : take (wear_count edition (disks C)) (card_wears card) ≡ ws =
    ap (take (wear_count edition (disks C))) (wears-read card k m e ∙ ap (padded 32) (own_read card k m a)) ∙ own_taken edition (disks C) ws w.each_worn in
    let is : (A : Type 0) (f : Code → List ℕ → A)
    → f (code k m (take m (card_columns card))) (take (wear_count edition (disks (code k m (take m (card_columns card))))) (card_wears card)) ≡ f C ws =
    λ A f. ap (λ (l : List ℕ). f (code k m l) (take (wear_count edition (disks (code k m l))) (card_wears card))) cs ∙ ap (f C) own_is in
    let ok : card_write_report edition C ws (length buffer) ≡ accepted [] =
    ap (card_write_report edition C ws) n ∙ write-accepted edition C ws (length card.bytes) w in (
      is Report (λ D w. card_write_report edition D w (length buffer)) ∙ ok,
      is (List ℕ) (λ D w. card_write_buffer edition D w buffer) ∙ unless_accepted (card_write_report edition C ws (length buffer)) [] (edition_bytes edition C ws) buffer ok
          ∙ card-again edition card.bytes k m b a,
    )
