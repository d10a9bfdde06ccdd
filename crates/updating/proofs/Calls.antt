-- What an accepted call does.
-- Assumes nothing.
use mathlib.Core.Path.{◌≡◌, sym, ap, ◌∙◌}
use mathlib.Core.Bool.{true, not}
use mathlib.Core.List.{List, [], ◌∷◌}
use Prim.Native.Nat.{ℕ, ◌+◌, ◌*◌, ◌≤◌, ◌<◌}
use native.Mathlib.Omega.{arith}
use borrow.Author.Tests.{eqb-true, not-false, eq-eqb}
use lib.Dec.{eqb, ltb}
use lib.ListN.{length}
use Rattle.gf2.proofs.Tests.{true-T, ltb_out}
use Rattle.flat.specs.Lists.{put}
use Rattle.flat.specs.Cards.{Code, Card, code_of, disks}
use Rattle.flat.specs.Strips.{length_ok, byte_of, encoded}
use Rattle.flat.specs.Faults.{Report, accepted, card_report, encode_tests, encode_report, encode_stripe}
use Rattle.flat.proofs.Lists.{length-put}
use Rattle.flat.proofs.Reports.{passed-number, unless_number, unless_accepted, with_accepted, with_card_lem, with_number}
use Rattle.flat.proofs.Editions.{card-accepted}
use Rattle.flat.proofs.Positions.{strip-within}
use Rattle.updating.specs.Updating.{updated, naming}
use Rattle.updating.specs.Faults.{update_tests, update_report, update_stripe}
use Rattle.updating.specs.Theorems.{UpdateAccepted}
use Rattle.updating.proofs.Rows.{row-names}
use Rattle.updating.proofs.Bytes.{update-length, update-byte, changes, afresh, update_xors}

-- what the tests of an accepted call tell
record Passed (card : Card) (L n d p : ℕ) : Type 0 where
  card_ok : (card_report card).number ≡ 0
  length_ok_lem : length_ok L ≡ true
  data_disk : d < (code_of card).k
  stripe_long : n ≡ disks (code_of card) * L
  new_long : p ≡ L
  answered : update_report card L n d p ≡ accepted ((1 + naming (code_of card) d) ∷ [])

call_passed : (card : Card) (L n d p : ℕ) → (update_report card L n d p).number ≡ 0 → Passed card L n d p
unfolding update_report update_tests
call_passed card L n d p h =
    let C = code_of card in
    let tests : Code → Report = λ D. update_tests D L n d p in
    let is = with_number card tests h in
    let a = passed-number (not (length_ok L)) 5 [] _ (sym (ap (λ (r : Report). r.number) is) ∙ h) in
    let b = passed-number (not (ltb d (disks C))) 8 [] _ a.1 in
    let c = passed-number (not (ltb d C.k)) 17 [] _ b.1 in
    let f = passed-number (not (eqb n (disks C * L))) 6 [] _ c.1 in
    let g = passed-number (not (eqb p L)) 18 [] (accepted ((1 + naming C d) ∷ [])) f.1 in
    record {
      card_ok = with_card_lem card tests h;
      length_ok_lem = not-false (length_ok L) a.0;
      data_disk = ltb_out d C.k (true-T (not-false (ltb d C.k) c.0));
      stripe_long = eqb-true n (disks C * L) (not-false (eqb n (disks C * L)) f.0);
      new_long = eqb-true p L (not-false (eqb p L) g.0);
      answered = is ∙ a.2 ∙ b.2 ∙ c.2 ∙ f.2 ∙ g.2;
    }

-- what encoding leaves, of a card and a strip length that are accepted
encode-is : (card : Card) (L : ℕ) (stripe : List ℕ) → (card_report card).number ≡ 0 → length_ok L ≡ true → length stripe ≡ disks (code_of card) * L
    → encode_stripe card L stripe ≡ encoded (code_of card) L stripe
unfolding encode_stripe encode_report encode_tests
encode-is card L stripe n ok e =
    unless_accepted (encode_report card L (length stripe)) [] (encoded (code_of card) L stripe) stripe
    (with_accepted card ((code_of card).k ∷ (code_of card).m ∷ []) (λ D. encode_tests D L (length stripe)) (card-accepted card n) ∙ simp (ok, eq-eqb _ _ e))

pub update-accepted : UpdateAccepted
unfolding update_stripe disks
update-accepted card L stripe d new h =
    let q = call_passed card L (length stripe) d (length new) h in
    let C = code_of card in
    let l = q.data_disk in
    let e = q.stripe_long in
    let is : update_stripe card L stripe d new ≡ updated C L d new stripe =
    unless_number (update_report card L (length stripe) d (length new)) (updated C L d new stripe) stripe h in
    let room : d * L + length new ≤ length stripe = omega (arith, strip-within d (disks C) L (omega arith), q.new_long) in
    record {
      answer = q.answered;
      most = (row-names C d l).3;
      long = ap length is ∙ update-length C L d new stripe;
      xored = λ i t m k. ap (λ (s : List ℕ). byte_of L s t i) is ∙ update_xors C L d i t new stripe e m k;
      written = λ t m. ap (λ (s : List ℕ). byte_of L s t d) is ∙ update-byte C L d new stripe e l t m;
      changes = λ i t m k. rw is (changes C L d new stripe e i t m k);
      afresh = λ fixed.
          is ∙ afresh C L d new stripe e l q.new_long (sym (encode-is card L stripe q.card_ok q.length_ok_lem e) ∙ fixed)
          ∙ sym (encode-is card L (put stripe (d * L) new) q.card_ok q.length_ok_lem (length-put stripe (d * L) new room ∙ e));
    }
