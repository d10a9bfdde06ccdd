-- The converter: what it writes, and that each way undoes the other.
-- Assumes nothing.
use mathlib.Core.Path.{◌≡◌, refl, sym, ap, ap₂, ◌∙◌, subst}
use mathlib.Core.Bool.{Bool, true, false, not, ◌&&◌}
use mathlib.Core.Logic.{◌≢◌}
use mathlib.Core.List.{List, [], ◌∷◌}
use Prim.Native.Nat.{ℕ, zero, suc, ◌<◌}
use native.Mathlib.Omega.{arith}
use borrow.Author.Tests.{eqb-true, eq-eqb, ne_eqb, not-false}
use lib.Dec.{eqb}
use lib.ListN.{length, get_or, replicate, length-replicate}
use Rattle.gf2.proofs.Tests.{true-T, T_true, and_out}
use Rattle.flat.specs.declared.Edition.{Edition}
use Rattle.flat.specs.declared.Edition.TheVariants.{First, Second}
use Rattle.flat.specs.Lists.{Bytes, member}
use Rattle.flat.specs.Cards.{Code, Card, card_of, edition_one, edition_two, edition_bytes, edition_length, wear_count, code_of, disks, each_wear, wears_of}
use Rattle.flat.specs.Faults.{accepted, refused, card_report}
use Rattle.flat.proofs.Reports.{passed, unless_accepted, with_out, with_accepted}
use Rattle.flat.proofs.Editions.{Accepted, accepted-card, card-accepted, ones-worn}
use Rattle.flat.proofs.RoundTrip.{Writable, code-back, wears-back, written-accepted, own, rewritable, one_writable, card-again}
use Rattle.editions.specs.Converting.{all_one, up_tests, up_report, up_buffer, down_tests, down_report, down_buffer}
use Rattle.editions.specs.Theorems.{Converted}

-- ---- wears that are all 1

pub all_ones : (n : ℕ) → all_one (replicate n 1) ≡ true
unfolding all_one
all_ones zero = refl
all_ones (suc n) = all_ones n

ones-only : (ws : List ℕ) → all_one ws ≡ true → ws ≡ replicate (length ws) 1
unfolding all_one
ones-only [] e = refl
ones-only (w ∷ ws) e =
    let p = and_out (eqb w 1) (all_one ws) (true-T e) in
    ap₂ ◌∷◌ (eqb-true w 1 (T_true {b = eqb w 1} p.0)) (ones-only ws (T_true {b = all_one ws} p.1))

pub all_one_lem : (ws : List ℕ) → ((i : ℕ) → i < length ws → get_or ws i 0 ≡ 1) → all_one ws ≡ true
unfolding all_one
all_one_lem [] f = refl
all_one_lem (w ∷ ws) f = simp (eq-eqb w 1 (f 0 (omega arith))) (all_one_lem ws (λ i l. f (suc i) (omega arith)))

pub not-one : (ws : List ℕ) (i : ℕ) → i < length ws → get_or ws i 0 ≢ 1 → all_one ws ≡ false
unfolding all_one
not-one [] i l f = absurd (omega arith)
not-one (w ∷ ws) zero l f = simp (ne_eqb w 1 f)
not-one (w ∷ ws) (suc i) l f = rw (not-one ws i (omega arith) f) (after (eqb w 1))
  where
    after : (b : Bool) → (b && false) ≡ false
    after true = refl
    after false = refl

-- ---- an accepted card

module _ (card : Card) (ok : (card_report card).number ≡ 0) where
  abbrev C : Code
  C = code_of card

  -- its own wears
  abbrev ws : List ℕ
  ws = own card C.m

  accepts : Accepted card C.k C.m
  accepts = accepted-card card C.k C.m (card-accepted card ok)

  pub whole : Writable card.edition C ws (length card.bytes)
  whole = subst (λ (D : Code). Writable card.edition D ws (length card.bytes)) (sym accepts.is) (rewritable card C.k C.m accepts)

  pub again : Bytes card.bytes → edition_bytes card.edition C ws ≡ card.bytes
  again b = ap (λ (D : Code). edition_bytes card.edition D ws) accepts.is ∙ card-again card.edition card.bytes C.k C.m b accepts

  -- the same code in either edition, with wears that count for what the card's do
  convert : (e : Edition) (vs : List ℕ) (n : ℕ) → Writable e C vs n → each_wear e (disks C) vs ≡ wears_of card
      → Converted card (card_of e (edition_bytes e C vs))
  convert e vs n w worn =
      record {
        read = written-accepted e C vs n w ∙ sym (card-accepted card ok);
        same_code = code-back C w.many e vs w.sound;
        same_wears = wears-back C w.many e vs w.sound ∙ worn;
      }

-- ---- up

module _ (card : List ℕ) (ok : (card_report (edition_one card)).number ≡ 0) where
  abbrev D : Code
  D = code_of (edition_one card)

  pub ones : wears_of (edition_one card) ≡ replicate (disks D) 1
  unfolding wears_of each_wear
  ones = refl

  pub up_writable : (n : ℕ) → n ≡ edition_length Second D → Writable Second D (wears_of (edition_one card)) n
  unfolding wear_count
  up_writable n size =
      let w = whole (edition_one card) ok in
      record {
        sound = w.sound;
        many = w.many;
        each_worn = ap length ones ∙ length-replicate (disks D) 1;
        worn = ap (member 0) ones ∙ ones-worn (disks D);
        size = size;
      }

  pub up-accepts : (n : ℕ) → n ≡ edition_length Second D → up_report card n ≡ accepted []
  unfolding up_report up_tests
  up-accepts n size = with_accepted (edition_one card) _ (λ C. up_tests C n) (card-accepted (edition_one card) ok) ∙ simp (eq-eqb n _ size)

  pub up_converts : Converted (edition_one card) (edition_two (edition_bytes Second D (wears_of (edition_one card))))
  unfolding each_wear
  up_converts = convert (edition_one card) ok Second (wears_of (edition_one card)) _ (up_writable _ refl) refl

-- what an accepted way up has passed, and leaves
pub up-passed : (card buffer : List ℕ) → up_report card (length buffer) ≡ accepted []
    → ((card_report (edition_one card)).number ≡ 0) × (length buffer ≡ edition_length Second (code_of (edition_one card)))
    × (up_buffer card buffer ≡ edition_bytes Second (code_of (edition_one card)) (wears_of (edition_one card)))
unfolding up_report up_tests up_buffer
up-passed card buffer e =
    let p = with_out (edition_one card) [] (λ D. up_tests D (length buffer)) e in
    let C = code_of (edition_one card) in
    let s = passed (not (eqb (length buffer) (edition_length Second C))) 6 [] [] (accepted []) p.1 in
    (p.0, eqb-true _ _ (not-false _ s.0), unless_accepted (up_report card (length buffer)) [] _ buffer e)

-- ---- down

module _ (card : List ℕ) (ok : (card_report (edition_two card)).number ≡ 0) where
  abbrev E : Code
  E = code_of (edition_two card)

  -- the wears that are read are its own, one for each disk
  pub read-own : wears_of (edition_two card) ≡ own (edition_two card) (code_of (edition_two card)).m
  unfolding wears_of each_wear
  read-own = refl

  pub each_disk : length (wears_of (edition_two card)) ≡ disks E
  unfolding wear_count
  each_disk = ap length read-own ∙ (whole (edition_two card) ok).each_worn

  pub down-accepts : (n : ℕ) → n ≡ edition_length First E → all_one (wears_of (edition_two card)) ≡ true → down_report card n ≡ accepted []
  unfolding down_report down_tests
  down-accepts n size one = with_accepted (edition_two card) _ (λ C. down_tests C (wears_of (edition_two card)) n) (card-accepted (edition_two card) ok) ∙ simp (eq-eqb n _ size, one)

  pub down_refuses : (n : ℕ) → n ≡ edition_length First E → all_one (wears_of (edition_two card)) ≡ false → down_report card n ≡ refused 24 []
  unfolding down_report down_tests
  down_refuses n size one = with_accepted (edition_two card) _ (λ C. down_tests C (wears_of (edition_two card)) n) (card-accepted (edition_two card) ok) ∙ simp (eq-eqb n _ size, one)

  pub down_converts : all_one (wears_of (edition_two card)) ≡ true → Converted (edition_two card) (edition_one (edition_bytes First E []))
  unfolding each_wear edition_length
  down_converts one =
      let w = whole (edition_two card) ok in
      convert (edition_two card) ok First [] _ (one_writable (code_of (edition_two card)) _ w.sound w.many refl)
      (sym (ones-only (wears_of (edition_two card)) one ∙ ap (λ (n : ℕ). replicate n 1) each_disk))

pub down-passed : (card buffer : List ℕ) → down_report card (length buffer) ≡ accepted []
    → ((card_report (edition_two card)).number ≡ 0) × (all_one (wears_of (edition_two card)) ≡ true)
    × (down_buffer card buffer ≡ edition_bytes First (code_of (edition_two card)) [])
unfolding down_report down_tests down_buffer
down-passed card buffer e =
    let p = with_out (edition_two card) [] (λ D. down_tests D (wears_of (edition_two card)) (length buffer)) e in
    let C = code_of (edition_two card) in
    let s = passed (not (eqb (length buffer) (edition_length First C))) 6 [] [] _ p.1 in
    let t = passed (not (all_one (wears_of (edition_two card)))) 23 [] [] (accepted []) s.1 in
    (p.0, not-false _ t.0, unless_accepted (down_report card (length buffer)) [] _ buffer e)
