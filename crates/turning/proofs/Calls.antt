-- The three calls: their refusals in order, that turning and turning back undo each other, and that the turned rebuild is rebuilding.
-- Assumes nothing.
use mathlib.Core.Path.{◌≡◌, refl, sym, ap, ap₂, ◌∙◌, subst}
use mathlib.Core.Bool.{not}
use mathlib.Core.Logic.{◌≢◌, ⊎_elim}
use mathlib.Core.List.{List, [], ◌∷◌}
use Prim.Native.Nat.{ℕ, ◌+◌, ◌*◌, ◌%◌, ◌<◌}
use borrow.Author.Tests.{not-false}
use lib.Dec.{T, eqb}
use lib.ListN.{length}
use Rattle.gf2.specs.Sets.{has}
use Rattle.gf2.proofs.Tests.{dec, T_true, T_false, true-T, eqb_in, eqb_out, ltb_in}
use Rattle.flat.specs.Cards.{Code, Card, code_of, disks, set_ok}
use Rattle.flat.specs.Strips.{length_ok, byte_of}
use Rattle.flat.specs.Rebuilding.{agreeing, restored}
use Rattle.flat.specs.Faults.{Report, accepted, refused, unless_refused, card_report, with_card, stripe_tests, disks_report, rebuild_tests, rebuild_report, rebuild_stripe}
use Rattle.flat.proofs.Reports.{passed-number, unless_number, unless_not, unless_either, unless_accepted, with_accepted, with_card_lem, with_number}
use Rattle.flat.proofs.Tested.{Passed, tests_length, tests_set, tests_size, tests_past, tests_passed, tests_are, tests_number}
use Rattle.flat.proofs.Rebuilds.{restored-long, restored-others, rebuild-is, rebuilt-stripe}
use Rattle.turning.specs.Turning.{disk_in, turned, turned_back, disks_of}
use Rattle.turning.specs.Faults.{turn_tests, turn_report, turn_buffer, turn_back_buffer, turned_tests, turned_report, turned_stripe}
use Rattle.turning.specs.Theorems.{CardFirst, TurnRefuses, TurnAccepted, TurnCallsUndone, TurnedRefuses, Turns, TurnedRebuild, TurnedKeeps}
use Rattle.turning.proofs.Slots.{disk_lt, slot-disk}
use Rattle.turning.proofs.Turned.{turned-holds, turned-back-holds, turned-byte, back-byte, length_back, turns_undone}
use Rattle.turning.proofs.Sets.{disk-of, disks_lt}

pub card_first : CardFirst
unfolding turn_report turned_report with_card
card_first card f = (λ L n p. unless_not (card_report card) _ (card_report card) f, λ L r S stripe. unless_not (card_report card) _ (card_report card) f)

-- ---- the calls that turn

-- what is known past their tests
turn-passed : (C : Code) (L n p : ℕ) → (turn_tests C L n p).number ≡ 0 → (n ≡ disks C * L) × (p ≡ disks C * L)
unfolding turn_tests
turn-passed C L n p e =
    let a = passed-number (not (length_ok L)) 5 [] _ e in
    let b = passed-number (not (eqb n (disks C * L))) 6 [] _ a.1 in
    let d = passed-number (not (eqb p (disks C * L))) 6 [] _ b.1 in (
      eqb_out n (disks C * L) (true-T {b = eqb n (disks C * L)} (not-false _ b.0)),
      eqb_out p (disks C * L) (true-T {b = eqb p (disks C * L)} (not-false _ d.0)),
    )

-- and where the whole accepts
pub turn-long : (card : Card) (L n p : ℕ) → (turn_report card L n p).number ≡ 0 → (n ≡ disks (code_of card) * L) × (p ≡ disks (code_of card) * L)
unfolding turn_report
turn-long card L n p z =
    turn-passed (code_of card) L n p (sym (ap (λ (x : Report). x.number) (with_number card (λ C. turn_tests C L n p) z)) ∙ z)

module _ (C : Code) (L n p : ℕ) where
  pub turn-length : (T (length_ok L) → ⊥) → turn_tests C L n p ≡ refused 6 []
  unfolding turn_tests
  turn-length f = simp (T_false {b = length_ok L} f)

  pub turn-stripe : T (length_ok L) → n ≢ disks C * L → turn_tests C L n p ≡ refused 7 []
  unfolding turn_tests
  turn-stripe l f =
      let e = T_false {b = eqb n (disks C * L)} (λ t. f (eqb_out n (disks C * L) t)) in simp (T_true {b = length_ok L} l, e)

  pub turn-done : T (length_ok L) → n ≡ disks C * L → p ≡ disks C * L → turn_tests C L n p ≡ accepted []
  unfolding turn_tests
  turn-done l e q =
      simp (T_true {b = length_ok L} l, T_true {b = eqb n (disks C * L)} (eqb_in e), T_true {b = eqb p (disks C * L)} (eqb_in q))

  pub turn_buffer_lem : T (length_ok L) → p ≢ disks C * L → turn_tests C L n p ≡ refused 7 []
  unfolding turn_tests
  turn_buffer_lem l f =
      let e = T_false {b = eqb p (disks C * L)} (λ t. f (eqb_out p (disks C * L) t)) in
      ⊎_elim (λ t. simp (T_true {b = length_ok L} l, T_true {b = eqb n (disks C * L)} t, e))
      (λ g. turn-stripe l (λ q. g (eqb_in q))) (dec (eqb n (disks C * L)))

pub turn_refuses : TurnRefuses
unfolding turn_report
turn_refuses card k m L n p ok =
    let C = code_of card in
    let tested = with_accepted card (k ∷ m ∷ []) (λ D. turn_tests D L n p) ok in
    record {
      six = λ f. tested ∙ turn-length C L n p f;
      seven = λ l f. tested ∙ turn-stripe C L n p l f;
      seven_second = λ l f. tested ∙ turn_buffer_lem C L n p l f;
      done = λ l e q. tested ∙ turn-done C L n p l e q;
    }

pub turn-accepted : TurnAccepted
unfolding turn_buffer turn_back_buffer
turn-accepted card L r stripe buffer ok =
    let n = disks (code_of card) in
    let report = turn_report card L (length stripe) (length buffer) in
    let one = unless_accepted report [] (turned n L r stripe) buffer ok in
    let two = unless_accepted report [] (turned_back n L r stripe) buffer ok in
    let size = (turn-long card L (length stripe) (length buffer) (ap (λ (x : Report). x.number) ok)).1 in
    record {
      there = λ t i h l. ap (λ (x : List ℕ). byte_of L x t ((i + r) % n)) one ∙ (turned-holds n L r stripe).1 t i h l;
      back = λ t i h l. ap (λ (x : List ℕ). byte_of L x t i) two ∙ (turned-back-holds n L r stripe).1 t i h l;
      long = (
        ap (λ (x : List ℕ). length x) one ∙ (turned-holds n L r stripe).0 ∙ sym size,
        ap (λ (x : List ℕ). length x) two ∙ (turned-back-holds n L r stripe).0 ∙ sym size,
      );
    }

pub turn_calls_undone : TurnCallsUndone
unfolding turn_report turn_buffer turn_back_buffer
turn_calls_undone card L r stripe buffer other ok e = (
  back (turned n L r stripe) (turned_back n L r) (turned-holds n L r stripe).0 (turns_undone n L r stripe whole).0,
  back (turned_back n L r stripe) (turned n L r) (length_back n L r stripe) (turns_undone n L r stripe whole).1,
)
  where
    n : ℕ
    n = disks (code_of card)

    report : ℕ → ℕ → Report
    report a b = with_card card (λ C. turn_tests C L a b)

    whole : length stripe ≡ n * L
    whole = (turn-long card L (length stripe) (length buffer) (ap (λ (x : Report). x.number) ok)).0

    -- the other call on what one of them left
    back : (made : List ℕ) (f : List ℕ → List ℕ) → length made ≡ n * L → f made ≡ stripe
        → (let x = unless_refused (report (length stripe) (length buffer)) made buffer in
        unless_refused (report (length x) (length other)) (f x) other ≡ stripe)
    back made f l q =
        let x = unless_refused (report (length stripe) (length buffer)) made buffer in
        let s : x ≡ made = unless_accepted (report (length stripe) (length buffer)) [] made buffer ok in
        unless_accepted (report (length x) (length other)) [] (f x) other
        (ap₂ report (ap (λ (y : List ℕ). length y) s ∙ l ∙ sym whole) e ∙ ok)
        ∙ ap f s ∙ q

-- ---- the turned rebuild

pub turned_refuses : TurnedRefuses
unfolding turned_report turned_tests
turned_refuses card k m L r S stripe ok =
    let C = code_of card in
    let n = length stripe in
    let next = disks_report C L (disks_of (disks C) r S) (turned_back (disks C) L r stripe) in
    let tested = with_accepted card (k ∷ m ∷ []) (λ D. turned_tests D L r S stripe) ok in
    record {
      six = λ f. tested ∙ sym (tests_length C L S n next (T_false {b = length_ok L} f));
      eight = λ l f. tested ∙ sym (tests_set C L S n next (T_true {b = length_ok L} l) (T_false {b = set_ok C S} f));
      seven = λ l s f. tested ∙ sym (tests_size C L S n next (T_true {b = length_ok L} l) (T_true {b = set_ok C S} s) f);
    }

-- the rebuilt stripe is as long, and its survivors keep their bytes
rebuilt-long : (card : Card) (L S : ℕ) (stripe : List ℕ) → length stripe ≡ disks (code_of card) * L → length (rebuild_stripe card L S stripe) ≡ length stripe
unfolding rebuild_stripe
rebuilt-long card L S stripe e =
    unless_either (λ (s : List ℕ). length s ≡ length stripe) (rebuild_report card L S stripe) _ stripe
    (restored-long (code_of card) L S stripe (agreeing (code_of card) L S stripe) e) refl

rebuilt-kept : (card : Card) (L S : ℕ) (stripe : List ℕ) (i t : ℕ) → i < disks (code_of card) → t < L → (T (has S i) → ⊥)
    → byte_of L (rebuild_stripe card L S stripe) t i ≡ byte_of L stripe t i
unfolding rebuild_stripe
rebuilt-kept card L S stripe i t l h f =
    unless_either (λ (s : List ℕ). byte_of L s t i ≡ byte_of L stripe t i) (rebuild_report card L S stripe) _ stripe
    (restored-others (code_of card) L S S stripe i t l h (agreeing (code_of card) L S stripe) f) refl

kept-refused : (card : Card) (L S : ℕ) (stripe : List ℕ) → (rebuild_report card L S stripe).number ≢ 0 → rebuild_stripe card L S stripe ≡ stripe
unfolding rebuild_stripe
kept-refused card L S stripe z = unless_not (rebuild_report card L S stripe) _ stripe z

-- good arguments
module _ (card : Card) (k m L r S : ℕ) (stripe : List ℕ) (ok : card_report card ≡ accepted (k ∷ m ∷ [])) (len : T (length_ok L))
    (set : T (set_ok (code_of card) S)) (whole : length stripe ≡ disks (code_of card) * L) where
  abbrev n : ℕ
  n = disks (code_of card)

  abbrev D : ℕ
  D = disks_of n r S

  abbrev back : List ℕ
  back = turned_back n L r stripe

  pub turned-is : turned_report card L r S stripe ≡ disks_report (code_of card) L D back
  unfolding turned_report turned_tests
  turned-is =
      tests_are card L S (length stripe) (λ C. disks_report C L (disks_of (disks C) r S) (turned_back (disks C) L r stripe)) (k ∷ m ∷ []) ok len set whole

  pub same_answer : turned_report card L r S stripe ≡ rebuild_report card L D back
  unfolding set_ok
  same_answer = turned-is ∙ sym (rebuild-is card (k ∷ m ∷ []) L D back ok len (ltb_in (disks_lt n r S)) (length_back n L r stripe))

  turned-long : length (turned_stripe card L r S stripe) ≡ n * L
  unfolding turned_stripe
  turned-long =
      unless_either (λ (s : List ℕ). length s ≡ n * L) (turned_report card L r S stripe) _ stripe
      (turned-holds n L r (rebuild_stripe card L D back)).0 whole

  same-strips : turned_back n L r (turned_stripe card L r S stripe) ≡ rebuild_stripe card L D back
  unfolding turned_stripe
  same-strips =
      ⊎_elim (λ t. let z = eqb_out (turned_report card L r S stripe).number 0 t in
      ap (turned_back n L r) (unless_number (turned_report card L r S stripe) (turned n L r (rebuild_stripe card L D back)) stripe z)
      ∙ (turns_undone n L r (rebuild_stripe card L D back) (rebuilt-long card L D back (length_back n L r stripe) ∙ length_back n L r stripe)).0)
      (λ f. let z : (turned_report card L r S stripe).number ≢ 0 = λ e. f (eqb_in e) in
      ap (turned_back n L r) (unless_not (turned_report card L r S stripe) (turned n L r (rebuild_stripe card L D back)) stripe z)
      ∙ sym (kept-refused card L D back (λ e. z (ap (λ (x : Report). x.number) same_answer ∙ e))))
      (dec (eqb (turned_report card L r S stripe).number 0))

  -- a buffer into which the stripe is turned back
  turned_into : (s buffer : List ℕ) → length s ≡ n * L → length buffer ≡ n * L → turn_back_buffer card L r s buffer ≡ turned_back n L r s
  unfolding turn_back_buffer
  turned_into s buffer e q =
      unless_accepted (turn_report card L (length s) (length buffer)) [] (turned_back n L r s) buffer
      ((turn_refuses card k m L (length s) (length buffer) ok).done len e q)

  pub turns : (buffer : List ℕ) → length buffer ≡ n * L → Turns card L r S stripe buffer
  turns buffer q =
      let b = turned_into stripe buffer whole q in
      record {
        answer = same_answer ∙ ap (rebuild_report card L D) (sym b);
        strips = turned_into (turned_stripe card L r S stripe) buffer turned-long q ∙ same-strips ∙ ap (rebuild_stripe card L D) (sym b);
      }

pub turned_rebuild : TurnedRebuild
turned_rebuild card k m L r S stripe buffer ok len set whole q = turns card k m L r S stripe ok len set whole buffer q

-- where it accepts, its tests passed
accepted-passed : (card : Card) (L r S : ℕ) (stripe : List ℕ) → (turned_report card L r S stripe).number ≡ 0 → Passed (code_of card) L S (length stripe)
unfolding turned_report turned_tests
accepted-passed card L r S stripe z =
    let C = code_of card in
    let e = with_number card (λ D. turned_tests D L r S stripe) z in
    tests_passed C L S (length stripe) (disks_report C L (disks_of (disks C) r S) (turned_back (disks C) L r stripe))
    (sym (ap (λ (x : Report). x.number) e) ∙ z)

-- so rebuilding accepts the stripe turned back, and restores it
module _ (card : Card) (L r S : ℕ) (stripe : List ℕ) (z : (turned_report card L r S stripe).number ≡ 0) where
  abbrev disks_lost : ℕ
  disks_lost = disks_of (disks (code_of card)) r S

  abbrev in_disks : List ℕ
  in_disks = turned_back (disks (code_of card)) L r stripe

  pub rebuilt-number : (rebuild_report card L disks_lost in_disks).number ≡ 0
  unfolding turned_report turned_tests rebuild_report rebuild_tests with_card set_ok
  rebuilt-number =
      let C = code_of card in
      let number : Report → ℕ = λ x. x.number in
      let next = disks_report C L disks_lost in_disks in
      let passed : Passed C L disks_lost (length in_disks) = record {
        length_ok_lem = (accepted-passed card L r S stripe z).length_ok_lem;
        set_ok_lem = T_true {b = set_ok C disks_lost} (ltb_in (disks_lt (disks C) r S));
        size = length_back (disks C) L r stripe;
      } in
      ap number (unless_number (card_report card) (stripe_tests C L disks_lost (length in_disks) next) (card_report card) (with_card_lem card (λ D. turned_tests D L r S stripe) z))
      ∙ ap number (tests_past C L disks_lost (length in_disks) next passed)
      ∙ tests_number card L S (length stripe) (λ D. disks_report D L (disks_of (disks D) r S) (turned_back (disks D) L r stripe)) z

  pub turned-restored : rebuild_stripe card L disks_lost in_disks ≡ restored (code_of card) L disks_lost in_disks (agreeing (code_of card) L disks_lost in_disks)
  turned-restored = rebuilt-stripe card L disks_lost in_disks rebuilt-number

pub turned-keeps : TurnedKeeps
unfolding turned_stripe
turned-keeps card L r S stripe =
    ⊎_elim (λ t. let z = eqb_out (turned_report card L r S stripe).number 0 t in
    subst (λ (x : List ℕ). Kept x) (sym (unless_number (turned_report card L r S stripe) (turned n L r rebuilt) stripe z)) (done z))
    (λ f. subst (λ (x : List ℕ). Kept x) (sym (unless_not (turned_report card L r S stripe) (turned n L r rebuilt) stripe (λ e. f (eqb_in e))))
    (refl, λ s t l g h. refl))
    (dec (eqb (turned_report card L r S stripe).number 0))
  where
    n : ℕ
    n = disks (code_of card)

    rebuilt : List ℕ
    rebuilt = rebuild_stripe card L (disks_of n r S) (turned_back n L r stripe)

    Kept : List ℕ → Type 0
    Kept x = (length x ≡ length stripe) × ((s t : ℕ) → s < n → (T (has S s) → ⊥) → t < L → byte_of L x t s ≡ byte_of L stripe t s)

    done : (turned_report card L r S stripe).number ≡ 0 → Kept (turned n L r rebuilt)
    done z = (
      (turned-holds n L r rebuilt).0 ∙ sym (accepted-passed card L r S stripe z).size,
      λ s t l g h. let d = disk_in n r s in
          let m = disk_lt n r s l in
          turned-byte n L r rebuilt t s h l
          ∙ rebuilt-kept card L (disks_of n r S) (turned_back n L r stripe) d t m h (λ x. g (subst T (disk-of n r S s l) x))
          ∙ back-byte n L r stripe t d h m ∙ ap (byte_of L stripe t) (slot-disk n r s l),
    )
