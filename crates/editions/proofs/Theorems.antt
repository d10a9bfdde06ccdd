-- The theorems about the two editions, and the converter's.
-- Assumes nothing.
use mathlib.Core.Path.{◌≡◌, refl, sym, ap, ap₂, ◌∙◌, subst}
use mathlib.Core.Bool.{true}
use mathlib.Core.List.{List, [], ◌∷◌, ◌++◌}
use Prim.Native.Nat.{ℕ, ◌+◌, ◌<◌}
use native.Mathlib.Omega.{arith}
use lib.ListN.{length, get_or}
use lib.Seq.{get_or-drop}
use Rattle.flat.specs.declared.Edition.TheVariants.{First, Second}
use Rattle.flat.specs.Lists.{padded, member}
use Rattle.flat.specs.Cards.{Code, Card, edition_one, edition_two, edition_bytes, edition_length, wear_count, start, first_byte_ok, card_length, card_bytes, code_of, disks, each_wear, wears_of}
use Rattle.flat.specs.Faults.{Report, unless_refused, card_report, with_card, card_write_report, card_write_buffer, verdict_report, verdict_tests, erasures_report, erasures_vector, erasures_slice, equations_tests, equations_report, equations_slice, list_report, list_slice}
use Rattle.flat.specs.Erasures.{erasures, vector}
use Rattle.flat.specs.Equations.{equations}
use Rattle.flat.proofs.Reports.{unless_accepted, with_accepted}
use Rattle.flat.proofs.Editions.{card-accepted, ones-worn, some_wear}
use Rattle.editions.specs.Converting.{all_one, up_report, up_buffer, down_report, down_buffer}
use Rattle.editions.specs.Theorems.{FirstRead, FirstWritten, SecondRead, SecondWritten, SecondAccepted, OneEdition, OneAnswer, OneCode, Converted, UpConverts, DownConverts, UpAlways, DownWhenOne, DownAfterUp, UpAfterDown}
use Rattle.editions.proofs.Apart as apart
use Rattle.editions.proofs.Converted as converted

-- ---- edition 1

pub first_read : FirstRead
unfolding card_report start first_byte_ok edition_length wears_of each_wear
first_read card = (simp (ones-worn (disks (code_of (edition_one card)))) refl, refl)

pub first-written : FirstWritten
unfolding card_write_report card_write_buffer wear_count edition_length edition_bytes
first-written C wears buffer = (refl, λ e. unless_accepted (card_write_report First C wears (length buffer)) [] (card_bytes C) buffer e)

-- ---- edition 2

pub second_written : SecondWritten
unfolding card_write_report card_write_buffer wear_count edition_length edition_bytes
second_written C wears buffer = (refl, λ e. unless_accepted (card_write_report Second C wears (length buffer)) [] (2 ∷ card_bytes C ++ wears) buffer e)

pub second_accepted : SecondAccepted
unfolding edition_bytes edition_length
second_accepted card b ok =
    let w = converted.whole (edition_two card) ok in
    let read = converted.read-own card ok in
    let each = converted.each_disk card ok in
    let at = start Second + card_length (code_of (edition_two card)).m in
    record {
      laid = sym (converted.again (edition_two card) ok b) ∙ ap (edition_bytes Second (code_of (edition_two card))) (sym read);
      each_disk = each;
      from_one = λ i l. some_wear (wears_of (edition_two card)) (ap (member 0) read ∙ w.worn) i (omega arith);
      one_byte = λ i. subst (λ (ws : List ℕ). get_or ws i 0 < 256) (sym read) (subst (λ (x : ℕ). x < 256) (sym (get_or-drop at card i 0)) (b (at + i)));
      long = w.size;
    }

-- ---- a card of the wrong edition

pub one-edition : OneEdition
one-edition = apart.one-edition

-- ---- list and verdict

module _ (card other : Card) (p : (card_report card).number ≡ 0) (q : (card_report other).number ≡ 0) (same : code_of card ≡ code_of other) where
  any : (answer : Code → Report) → with_card card answer ≡ with_card other answer
  any answer =
      with_accepted card _ answer (card-accepted card p) ∙ ap answer same ∙ sym (with_accepted other _ answer (card-accepted other q))

  counts : (n : ℕ) → erasures_report card n ≡ erasures_report other n
  unfolding erasures_report
  counts n = any (λ C. list_report (erasures C) n)

  told : (d n : ℕ) → equations_report card d n ≡ equations_report other d n
  unfolding equations_report
  told d n = any (λ C. equations_tests C d n)

  one_answer : OneAnswer card other
  unfolding verdict_report erasures_vector erasures_slice equations_slice
  one_answer =
      record {
        verdict = λ S. any (λ C. verdict_tests C S);
        count = counts;
        vector = λ n. ap₂ (λ (r : Report) (C : Code). padded 17 (unless_refused r (vector C) [])) (counts n) same;
        entries = λ slice. ap₂ (λ (r : Report) (C : Code). unless_refused r (list_slice (erasures C) slice) slice) (counts (length slice)) same;
        equation_count = told;
        equations = λ d slice. ap₂ (λ (r : Report) (C : Code). unless_refused r (list_slice (equations C d) slice) slice) (told d (length slice)) same;
        any = any;
      }

pub one_code : OneCode
one_code = one_answer

-- ---- the converter

pub up_always : UpAlways
up_always card n ok size = converted.up-accepts card ok n size

pub down_when_one : DownWhenOne
down_when_one card n ok size = (
  λ f. converted.down-accepts card ok n size (converted.all_one_lem (wears_of (edition_two card)) (λ i l. f i (omega (arith, converted.each_disk card ok)))),
  λ i l f. converted.down_refuses card ok n size (converted.not-one (wears_of (edition_two card)) i (omega (arith, converted.each_disk card ok)) (λ e. f (omega (arith, e)))),
)

pub up_converts : UpConverts
up_converts card buffer e =
    let p = converted.up-passed card buffer e in
    subst (λ (bs : List ℕ). Converted (edition_one card) (edition_two bs)) (sym p.2) (converted.up_converts card p.0)

pub down_converts : DownConverts
down_converts card buffer e =
    let p = converted.down-passed card buffer e in
    subst (λ (bs : List ℕ). Converted (edition_two card) (edition_one bs)) (sym p.2) (converted.down_converts card p.0 p.1)

pub down-after-up : DownAfterUp
unfolding down_buffer edition_bytes
down-after-up card buffer back b e n =
    let p = converted.up-passed card buffer e in
    let ok = p.0 in
    let new = up_buffer card buffer in
    let c = up_converts card buffer e in
    let good : (card_report (edition_two new)).number ≡ 0 = ap (λ (r : Report). r.number) c.read ∙ ok in
    let size : length back ≡ edition_length First (code_of (edition_two new)) =
    n ∙ (converted.whole (edition_one card) ok).size ∙ ap (edition_length First) (sym c.same_code) in
    let one : all_one (wears_of (edition_two new)) ≡ true = ap all_one (c.same_wears ∙ converted.ones card ok) ∙ converted.all_ones (disks (code_of (edition_one card))) in
    let accepts = converted.down-accepts new good (length back) size one in (
      accepts,
      unless_accepted (down_report new (length back)) [] _ back accepts ∙ ap card_bytes c.same_code ∙ converted.again (edition_one card) ok b,
    )

pub up-after-down : UpAfterDown
unfolding up_buffer
up-after-down card buffer back b e n =
    let p = converted.down-passed card buffer e in
    let ok = p.0 in
    let new = down_buffer card buffer in
    let c = down_converts card buffer e in
    let good : (card_report (edition_one new)).number ≡ 0 = ap (λ (r : Report). r.number) c.read ∙ ok in
    let size : length back ≡ edition_length Second (code_of (edition_one new)) =
    n ∙ (converted.whole (edition_two card) ok).size ∙ ap (edition_length Second) (sym c.same_code) in
    let accepts = converted.up-accepts new good (length back) size in (
      accepts,
      unless_accepted (up_report new (length back)) [] _ back accepts
          ∙ ap₂ (edition_bytes Second) c.same_code (c.same_wears ∙ converted.read-own card ok) ∙ converted.again (edition_two card) ok b,
    )

pub second_read : SecondRead
unfolding card_report start first_byte_ok edition_length
second_read card = refl
