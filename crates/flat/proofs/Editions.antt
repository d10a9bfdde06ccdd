-- What is known of an accepted card of either edition, and when a card is accepted.
-- Assumes nothing.
use mathlib.Core.Path.{◌≡◌, refl, ap, ap₂, ◌∙◌, subst}
use mathlib.Core.Bool.{Bool, true, false, not}
use mathlib.Core.Logic.{⊎_elim}
use mathlib.Core.List.{List, [], ◌∷◌}
use Prim.Native.Nat.{ℕ, zero, suc, ◌+◌, ◌≤◌, ◌<◌}
use native.Mathlib.Omega.{arith}
use borrow.Author.Tests.{eqb-true, not-false, le-ltb, eq-eqb}
use lib.Dec.{T, ltb, eqb}
use lib.ListN.{length, get_or, replicate}
use Rattle.gf2.proofs.Tests.{below_or}
use Rattle.flat.specs.declared.Edition.{Edition}
use Rattle.flat.specs.declared.Edition.TheVariants.{First, Second}
use Rattle.flat.specs.Lists.{member}
use Rattle.flat.specs.Cards.{Code, count_ok, first_bad, card_length, code_in, Card, edition_one, edition_length, start, first_byte_ok, data_count, parity_count, column_bytes, code_of, wears_of}
use Rattle.flat.specs.Faults.{Report, accepted, code_report, card_report}
use Rattle.flat.proofs.Members.{in_at}
use Rattle.flat.proofs.Reports.{passed, passed-number}
use Rattle.flat.proofs.Cards.{Sound, sound, sound-report}

-- a card that is accepted with these k and m
pub record Accepted (card : Card) (k m : ℕ) : Type 0 where
  pub data_count_lem : data_count card ≡ k
  pub parity_count_lem : parity_count card ≡ m
  pub is : code_of card ≡ code_in k m (column_bytes card)
  pub sound : Sound (code_in k m (column_bytes card))
  pub size : length card.bytes ≡ edition_length card.edition (code_in k m (column_bytes card))
  pub begins : first_byte_ok card.edition card.bytes ≡ true
  pub worn : member 0 (wears_of card) ≡ false

pub accepted-card : (card : Card) (k m : ℕ) → card_report card ≡ accepted (k ∷ m ∷ []) → Accepted card k m
unfolding card_report code_of
accepted-card card k m e =
    let C = code_of card in
    let ws = k ∷ m ∷ [] in
    let a = passed (ltb (length card.bytes) (start card.edition + 2)) 0 [] ws _ e in
    let b = passed (not (first_byte_ok card.edition card.bytes)) 21 [] ws _ a.1 in
    let s = sound C (eqb (length card.bytes) (edition_length card.edition C)) _ ws b.1 in
    let w = passed (member 0 (wears_of card)) 22 [] ws (accepted (C.k ∷ C.m ∷ [])) s.2 in
    let ek : data_count card ≡ k = ap (λ (x : Report). get_or x.values 0 0) w.1 in
    let em : parity_count card ≡ m = ap (λ (x : Report). get_or x.values 1 0) w.1 in
    let is : C ≡ code_in k m (column_bytes card) = ap₂ (λ (x y : ℕ). code_in x y (column_bytes card)) ek em in
    record {
      data_count_lem = ek;
      parity_count_lem = em;
      is = is;
      sound = subst Sound is s.0;
      size = eqb-true _ _ s.1 ∙ ap (edition_length card.edition) is;
      begins = not-false _ b.0;
      worn = w.0;
    }

-- a card whose report has the number 0 is accepted with its own counts
pub card-accepted : (card : Card) → (card_report card).number ≡ 0 → card_report card ≡ accepted ((code_of card).k ∷ (code_of card).m ∷ [])
unfolding card_report code_report
card-accepted card e =
    let C = code_of card in
    let bad = first_bad C.k C.columns in
    let a = passed-number (ltb (length card.bytes) (start card.edition + 2)) 0 [] _ e in
    let b = passed-number (not (first_byte_ok card.edition card.bytes)) 21 [] _ a.1 in
    let c = passed-number (not (count_ok C.k)) 1 [] _ b.1 in
    let d = passed-number (not (count_ok C.m)) 2 [] _ c.1 in
    let f = passed-number (not (eqb (length card.bytes) (edition_length card.edition C))) 3 [] _ d.1 in
    let g = passed-number (ltb bad C.m) 4 (bad ∷ []) _ f.1 in
    a.2 ∙ b.2 ∙ c.2 ∙ d.2 ∙ f.2 ∙ g.2 ∙ (passed-number (member 0 (wears_of card)) 22 [] (accepted (C.k ∷ C.m ∷ [])) g.1).2

-- a card of its edition's length has a first byte, where the edition has one, and both counts
pub long-enough : (e : Edition) (C : Code) (n : ℕ) → n ≡ edition_length e C → start e + 2 ≤ n
unfolding start edition_length card_length
long-enough First C n h = omega arith
long-enough Second C n h = omega arith

pub report-accepted : (card : Card) (C : Code) → code_of card ≡ C → Sound C → length card.bytes ≡ edition_length card.edition C
    → first_byte_ok card.edition card.bytes ≡ true → member 0 (wears_of card) ≡ false → card_report card ≡ accepted (C.k ∷ C.m ∷ [])
unfolding card_report
report-accepted card C is s size begins worn =
    let n = length card.bytes in
    let whole = accepted (C.k ∷ C.m ∷ []) in
    simp (le-ltb _ _ (long-enough card.edition C n size), begins, worn)
    (ap (λ (D : Code). code_report D (eqb n (edition_length card.edition D)) (accepted (D.k ∷ D.m ∷ []))) is
    ∙ ap (λ (b : Bool). code_report C b whole) (eq-eqb n (edition_length card.edition C) size)
    ∙ sound-report C whole s)

-- the first edition counts as wear 1
pub ones-worn : (n : ℕ) → member 0 (replicate n 1) ≡ false
unfolding member
ones-worn zero = refl
ones-worn (suc n) = ones-worn n

-- a card of edition 1 has its counts and columns, and no more
pub one_size : (bs : List ℕ) (k m : ℕ) → Accepted (edition_one bs) k m → length bs ≡ card_length m
unfolding edition_length
one_size bs k m a = a.size

-- a wear that is not 0 is at least 1
pub some_wear : (ws : List ℕ) → member 0 ws ≡ false → (i : ℕ) → i < length ws → 1 ≤ get_or ws i 0
some_wear ws none i l =
    ⊎_elim (λ z. absurd (subst T none (subst (λ (w : ℕ). T (member w ws)) (let e : get_or ws i 0 ≡ 0 = omega arith in e) (in_at ws i l)))) (λ h. h)
    (below_or (get_or ws i 0) 1)
