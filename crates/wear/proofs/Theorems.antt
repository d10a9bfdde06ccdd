-- The statements of specs/Theorems.antt: the call past its tests, and what the other files prove of it.
-- Assumes nothing.
use mathlib.Core.Path.{◌≡◌, sym, ◌∙◌, subst}
use mathlib.Core.Bool.{not}
use mathlib.Core.List.{List, [], ◌∷◌}
use Prim.Native.Nat.{ℕ, ◌<◌}
use borrow.Author.Tests.{lt-ltb, le-ltb}
use lib.Dec.{T, ltb}
use lib.ListN.{get_or}
use Rattle.gf2.proofs.Tests.{T_true, T_false}
use Rattle.flat.specs.Cards.{Code, code_of, disks, set_ok, wears_of}
use Rattle.flat.specs.Faults.{Report, card_report, with_card}
use Rattle.flat.proofs.Reports.{passed, unless_number, unless_not, with_out}
use Rattle.wear.specs.Wear.{total_wear, equations_left, least_report, least_wear_tests, least_wear_report}
use Rattle.wear.specs.Theorems as Theorems
use Rattle.wear.proofs.Sums.{over_empty, over-plus}
use Rattle.wear.proofs.Left as lefts
use Rattle.wear.proofs.Least as least

-- the answer where set and disk pass
pub past_tests : (C : Code) (ws : List ℕ) (d S : ℕ) → T (set_ok C S) → d < disks C
    → least_wear_tests C ws d S ≡ least_report (total_wear C ws) (equations_left C d S)
unfolding least_wear_tests
past_tests C ws d S s l = simp (T_true {b = set_ok C S} s, lt-ltb d (disks C) l)

pub disk_as_lost : Theorems.DiskAsLost
disk_as_lost = lefts.disk_as_lost

pub wear_adds : Theorems.WearAdds
unfolding total_wear
wear_adds C ws = (over_empty (disks C) (λ i. get_or ws i 0), over-plus (disks C) (λ i. get_or ws i 0))

pub least-given : Theorems.LeastGiven
unfolding least_wear_tests
least-given C ws d S E h =
    let a = passed (not (set_ok C S)) 7 [] (E ∷ []) _ h in
    let b = passed (not (ltb d (disks C))) 8 [] (E ∷ []) _ a.1 in
    least.least-of C ws d S E b.1

pub least-only : Theorems.LeastOnly
least-only = least.least-only

pub eleven-exactly : Theorems.ElevenExactly
eleven-exactly C ws d S s l =
    let is = past_tests C ws d S s l in
    let none = least.none_left C ws d S in
    let untold = least.none-untold C ws d S l in
    record {
      none = (λ h. none.0 (sym is ∙ h), λ f. is ∙ none.1 f);
      untold = (λ h. untold.0 (sym is ∙ h), λ t. is ∙ untold.1 t);
      given = λ t. let r = least.some-given C ws d S t in (r.0, is ∙ r.1);
    }

pub named_or_not : Theorems.NamedOrNot
unfolding least_wear_tests equations_left
named_or_not C ws d S l = simp (lefts.with_ok C S d l, lefts.lost_twice S d)

pub worn-alike : Theorems.WornAlike
worn-alike C ws w d S E Es alike s l e = past_tests C ws d S s l ∙ least.alike-first C ws d S w E Es alike e

pub best_is-least : Theorems.BestIsLeast
best_is-least C ws d S E worn s l t q best = past_tests C ws d S s l ∙ least.best_least C ws d S worn E t q best

pub others-by-words : Theorems.OthersByWords
others-by-words = lefts.others-by-words

-- ---- the call with a card

pub least_wear_answered : Theorems.LeastWearAnswered
unfolding least_wear_report with_card least_wear_tests
least_wear_answered card d S =
    let C = code_of card in
    let ws = wears_of card in
    let r = card_report card in
    let is : r.number ≡ 0 → least_wear_report card d S ≡ least_wear_tests C ws d S = λ ok. unless_number r (least_wear_tests C ws d S) r ok in
    record {
      card_refused = λ f. unless_not r (least_wear_tests C ws d S) r f;
      outside = λ ok f. is ok ∙ simp (T_false {b = set_ok C S} f);
      no_disk = λ ok s l. is ok ∙ simp (T_true {b = set_ok C S} s, le-ltb d (disks C) l);
      least = λ E e. least-given C ws d S E (with_out card (E ∷ []) (λ D. least_wear_tests D ws d S) e).1;
      eleven = λ ok s l. subst (λ (x : Report). Theorems.ElevenAt x C d S) (sym (is ok)) (eleven-exactly C ws d S s l);
    }
