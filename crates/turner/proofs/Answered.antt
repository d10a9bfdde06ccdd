-- What the calls answer at each way out of their tests, and what they answer and leave in the second buffer for a good card and for a bad one.
-- Assumes nothing.
use mathlib.Core.Path.{◌≡◌, sym, ap, ◌∙◌}
use mathlib.Core.Bool.{true, false}
use mathlib.Core.Logic.{◌≢◌, ⊎_elim}
use mathlib.Core.List.{List, []}
use Prim.Native.Nat.{ℕ, ◌-◌, ◌*◌, ◌%◌, ◌≤◌}
use lib.Dec.{eqb}
use lib.ListN.{length}
use Rattle.gf2.proofs.Tests.{dec, true-T, false-T, eqb_in, eqb_out}
use Rattle.std.specs.Prelude.{Ok, Err}
use Rattle.flat.specs.declared.Edition.{Edition}
use Rattle.flat.specs.Cards.{Code, Card, card_of, disks, code_of}
use Rattle.flat.specs.Strips.{length_ok}
use Rattle.flat.specs.Faults.{Report, accepted, refused, unless_refused, card_report}
use Rattle.flat.proofs.Reports.{unless_number, unless_not}
use Rattle.card.specs.declared.CardFault.{CardFault}
use Rattle.card.specs.Reports.{fault_report, report as check_report}
use Rattle.card.proofs.Laws.{unless_fault}
use Rattle.card.proofs.Callers.{good_with, bad_card}
use Rattle.turning.specs.Turning.{turned, turned_back}
use Rattle.turning.specs.Slots.{cut}
use Rattle.turning.specs.Faults.{turn_tests, turn_report, turn_buffer, turn_back_buffer}
use Rattle.turning.proofs.Turned.{turned-cut}
use Rattle.turning.proofs.Calls.{turn-length, turn-stripe, turn_buffer_lem, turn-done, turn-long}

-- ---- the tests, for a code of d disks, a stripe of n bytes and a second buffer of p

module _ (d L n p : ℕ) (C : Code) (is : disks C ≡ d) where
  long : (x : ℕ) → x ≡ disks C * L → x ≡ d * L
  long x e = e ∙ ap (λ (y : ℕ). y * L) is

  pub length-report : length_ok L ≡ false → refused 6 [] ≡ turn_tests C L n p
  length-report f = sym (turn-length C L n p (false-T f))

  module _ (good : length_ok L ≡ true) where
    pub stripe-report : n ≢ d * L → refused 7 [] ≡ turn_tests C L n p
    stripe-report f = sym (turn-stripe C L n p (true-T good) (λ e. f (long n e)))

    pub buffer_report : p ≢ d * L → refused 7 [] ≡ turn_tests C L n p
    buffer_report f = sym (turn_buffer_lem C L n p (true-T good) (λ e. f (long p e)))

    pub done-report : n ≡ d * L → p ≡ d * L → accepted [] ≡ turn_tests C L n p
    done-report e q =
        let back = ap (λ (y : ℕ). y * L) (sym is) in sym (turn-done C L n p (true-T good) (e ∙ back) (q ∙ back))

-- ---- a good card, and a bad one

module _ (edition : Edition) (bs : List ℕ) (L r : ℕ) (stripe out : List ℕ) where
  abbrev card : Card
  card = card_of edition bs

  abbrev answer : Report
  answer = turn_report card L (length stripe) (length out)

  -- what is left hangs on stripes of the code's length alone
  same_left : (x y : List ℕ) → (length stripe ≡ disks (code_of card) * L → x ≡ y) → unless_refused answer x out ≡ unless_refused answer y out
  same_left x y h =
      ⊎_elim (λ t. let z = eqb_out answer.number 0 t in
      unless_number answer x out z ∙ h (turn-long card L (length stripe) (length out) z).0 ∙ sym (unless_number answer y out z))
      (λ f. let z : answer.number ≢ 0 = λ e. f (eqb_in e) in unless_not answer x out z ∙ sym (unless_not answer y out z))
      (dec (eqb answer.number 0))

  module _ (C : Code) (value : check_report (Ok C) ≡ card_report card) (is : C ≡ code_of card) where
    disks_are : disks (code_of card) ≡ disks C
    disks_are = ap (λ (D : Code). disks D) (sym is)

    pub good_report : (a : Report) → a ≡ turn_tests C L (length stripe) (length out) → a ≡ answer
    unfolding turn_report
    good_report a e = good_with edition bs (λ D. turn_tests D L (length stripe) (length out)) C a value is e

    module _ (a : Report) (e : a ≡ answer) (some : 1 ≤ disks C) (after : List ℕ) where
      cut_left : (at : ℕ) (made : List ℕ) → (length stripe ≡ disks C * L → made ≡ cut at stripe) → after ≡ unless_refused a (cut at stripe) out
          → after ≡ unless_refused answer made out
      cut_left at made h q =
          q ∙ ap (λ (x : Report). unless_refused x (cut at stripe) out) e
          ∙ same_left (cut at stripe) made (λ w. sym (h (w ∙ ap (λ (x : ℕ). x * L) disks_are)))

      pub good_turned : (t : ℕ) → t ≡ r % disks C → after ≡ unless_refused a (cut ((disks C - t) * L) stripe) out → after ≡ turn_buffer card L r stripe out
      unfolding turn_buffer
      good_turned t is q =
          cut_left ((disks C - t) * L) (turned (disks (code_of card)) L r stripe)
          (λ w. ap (λ (n : ℕ). turned n L r stripe) disks_are ∙ (turned-cut (disks C) L r stripe some w).0
          ∙ ap (λ (x : ℕ). cut ((disks C - x) * L) stripe) (sym is)) q

      pub good_back : (t : ℕ) → t ≡ r % disks C → after ≡ unless_refused a (cut (t * L) stripe) out → after ≡ turn_back_buffer card L r stripe out
      unfolding turn_back_buffer
      good_back t is q =
          cut_left (t * L) (turned_back (disks (code_of card)) L r stripe)
          (λ w. ap (λ (n : ℕ). turned_back n L r stripe) disks_are ∙ (turned-cut (disks C) L r stripe some w).1
          ∙ ap (λ (x : ℕ). cut (x * L) stripe) (sym is)) q

  module _ (f : CardFault) (e : check_report (Err f) ≡ card_report card) where
    pub bad_report : fault_report f ≡ answer
    unfolding turn_report
    bad_report = bad_card edition bs (λ C. turn_tests C L (length stripe) (length out)) f e

    pub bad_turned : out ≡ turn_buffer card L r stripe out
    unfolding turn_buffer
    bad_turned = sym (unless_fault f answer _ out bad_report)

    pub bad_back : out ≡ turn_back_buffer card L r stripe out
    unfolding turn_back_buffer
    bad_back = sym (unless_fault f answer _ out bad_report)
