-- What an accepted report tells of the tests that led to it, what a refused call leaves, what a call with a card answers, and the report of
-- a list.
-- Assumes nothing.
use mathlib.Core.Path.{◌≡◌, refl, sym, ap, ◌∙◌, subst}
use mathlib.Core.Bool.{Bool, true, false}
use mathlib.Core.Logic.{◌≢◌, ⊎_elim}
use mathlib.Core.List.{List, [], ◌∷◌}
use Prim.Native.Nat.{ℕ, suc, ◌-◌, ◌≤◌, ◌<◌}
use native.Mathlib.Omega.{arith}
use borrow.Author.Tests.{lt-ltb, le-ltb, eqb-true, eqb-false}
use lib.Dec.{T, eqb}
use lib.ListN.{length, get_or, take, drop}
use lib.Seq.{take_at}
use Rattle.std.specs.Prelude.{if◌then◌else◌}
use Rattle.gf2.proofs.Tests.{dec, T_false, eqb_in, eqb_out, below_or}
use Rattle.flat.specs.Cards.{Code, Card, code_of}
use Rattle.flat.specs.Faults.{Report, accepted, refused, unless_refused, card_report, with_card, list_report, list_slice}

-- where a test refuses and the whole accepts, the test did not hold, and the rest accepts
pub passed : (b : Bool) (n : ℕ) (vs ws : List ℕ) (rest : Report) → (if b then refused (suc n) vs else rest) ≡ accepted ws
    → (b ≡ false) × (rest ≡ accepted ws)
passed true n vs ws rest e = absurd (let z : suc n ≡ 0 = ap (λ (r : Report). r.number) e in omega arith)
passed false n vs ws rest e = (refl, e)

-- the same of the number alone; the whole is then the rest
pub passed-number : (b : Bool) (n : ℕ) (vs : List ℕ) (rest : Report) → (if b then refused (suc n) vs else rest).number ≡ 0
    → (b ≡ false) × (rest.number ≡ 0) × ((if b then refused (suc n) vs else rest) ≡ rest)
passed-number true n vs rest e = absurd (omega arith)
passed-number false n vs rest e = (refl, e, refl)

-- `unless_refused` is opened in the first two laws alone
module _ {A : Type 0} where
  pub unless_number : (r : Report) (new old : A) → r.number ≡ 0 → unless_refused r new old ≡ new
  unfolding unless_refused
  unless_number r new old e = rw e

  pub unless_not : (r : Report) (new old : A) → r.number ≢ 0 → unless_refused r new old ≡ old
  unfolding unless_refused
  unless_not r new old f = rw (T_false {b = eqb r.number 0} (λ t. f (eqb_out r.number 0 t)))

  -- what holds of both holds either way
  pub unless_either : (P : A → Type 0) (r : Report) (new old : A) → P new → P old → P (unless_refused r new old)
  unless_either P r new old p q =
      ⊎_elim (λ t. subst P (sym (unless_number r new old (eqb_out r.number 0 t))) p) (λ f. subst P (sym (unless_not r new old (λ z. f (eqb_in z)))) q)
      (dec (eqb r.number 0))

  pub unless_accepted : (r : Report) (ws : List ℕ) (new old : A) → r ≡ accepted ws → unless_refused r new old ≡ new
  unless_accepted r ws new old e = unless_number r new old (ap (λ (x : Report). x.number) e)

  pub unless_refused_lem : (r : Report) (n : ℕ) (vs : List ℕ) (new old : A) → r ≡ refused (suc n) vs → unless_refused r new old ≡ old
  unless_refused_lem r n vs new old e = unless_not r new old (λ z. let q : suc n ≡ 0 = sym (ap (λ (x : Report). x.number) e) ∙ z in omega arith)

  -- where the code has tested the number
  pub unless_zero : (r : Report) (new old : A) → eqb r.number 0 ≡ true → new ≡ unless_refused r new old
  unless_zero r new old e = sym (unless_number r new old (eqb-true r.number 0 e))

  pub unless_other : (r : Report) (new old : A) → eqb r.number 0 ≡ false → old ≡ unless_refused r new old
  unless_other r new old e = sym (unless_not r new old (eqb-false r.number 0 e))

-- a report whose number is not 0 is a refusal by its number
pub as_refused : (r : Report) → eqb r.number 0 ≡ false → r ≡ refused (suc (r.number - 1)) r.values
as_refused r e =
    let f = eqb-false r.number 0 e in
    let z : r.number ≡ suc (r.number - 1) = omega arith in
    ap (λ (n : ℕ). refused n r.values) z

-- an accepted card's code is what the call works on
pub with_accepted : (card : Card) (ws : List ℕ) (f : Code → Report) → card_report card ≡ accepted ws → with_card card f ≡ f (code_of card)
unfolding with_card
with_accepted card ws f e = unless_accepted (card_report card) ws (f (code_of card)) (card_report card) e

-- a call that takes a card has the number 0 only where the card's report has
pub with_card_lem : (card : Card) (f : Code → Report) → (with_card card f).number ≡ 0 → (card_report card).number ≡ 0
unfolding with_card
with_card_lem card f e = ⊎_elim (eqb_out r 0) (λ g. absurd (g (eqb_in (sym (ap (λ (x : Report). x.number) (refusal g)) ∙ e)))) (dec (eqb r 0))
  where
    r : ℕ
    r = (card_report card).number

    refusal : (T (eqb r 0) → ⊥) → with_card card f ≡ card_report card
    refusal g = unless_not (card_report card) (f (code_of card)) (card_report card) (λ z. g (eqb_in z))

pub with_number : (card : Card) (f : Code → Report) → (with_card card f).number ≡ 0 → with_card card f ≡ f (code_of card)
unfolding with_card
with_number card f e = unless_number (card_report card) (f (code_of card)) (card_report card) (with_card_lem card f e)

-- and is accepted only where the card is
pub with_out : (card : Card) (ws : List ℕ) (f : Code → Report) → with_card card f ≡ accepted ws → ((card_report card).number ≡ 0) × (f (code_of card) ≡ accepted ws)
with_out card ws f e = let n = ap (λ (x : Report). x.number) e in (with_card_lem card f n, sym (with_number card f n) ∙ e)

-- only the card's code matters
pub with_cong : (card : Card) (f g : Code → Report) → f (code_of card) ≡ g (code_of card) → with_card card f ≡ with_card card g
unfolding with_card
with_cong card f g e = ap (λ (r : Report). unless_refused (card_report card) r (card_report card)) e

-- ---- the report of a list

pub list-short : (list : List ℕ) (n count : ℕ) → count ≡ length list → n < count → refused 10 (count ∷ []) ≡ list_report list n
unfolding list_report
list-short list n count e l = let h : n < length list = omega arith in rw (e, lt-ltb n (length list) h)

pub list_fits : (list : List ℕ) (n count : ℕ) → count ≡ length list → count ≤ n → accepted (count ∷ []) ≡ list_report list n
unfolding list_report
list_fits list n count e l = let h : length list ≤ n = omega arith in rw (e, le-ltb n (length list) h)

-- an accepted call's count is the list's, which fits, and so the list was written
pub list_counted : (list : List ℕ) (n count : ℕ) → list_report list n ≡ accepted (count ∷ []) → (length list ≡ count) × (count ≤ n)
list_counted list n count e =
    ⊎_elim (λ l. absurd (let z : ◌≡◌ {A = ℕ} 10 0 = ap (λ (x : Report). x.number) (list-short list n (length list) refl l ∙ e) in omega arith))
    (λ l. let c : length list ≡ count = ap (λ (x : Report). get_or x.values 0 0) (list_fits list n (length list) refl l ∙ e) in (c, omega arith))
    (below_or n (length list))

pub list_written : (list slice : List ℕ) (count : ℕ) → list_report list (length slice) ≡ accepted (count ∷ []) → take count (list_slice list slice) ≡ list
unfolding list_slice
list_written list slice count e = take_at list (drop (length list) slice) count (list_counted list (length slice) count e).0
