-- The second rebuild call: what it answers, what it restores, and that it reads no lost byte.
-- Assumes nothing.
use mathlib.Core.Path.{◌≡◌, refl, sym, ap, ◌∙◌}
use mathlib.Core.Logic.{◌≢◌}
use mathlib.Core.List.{List, [], ◌∷◌, cons≢nil}
use Prim.Native.Nat.{ℕ, ◌*◌, ◌<◌}
use native.Mathlib.Omega.{arith}
use lib.Dec.{T}
use lib.ListN.{length}
use Rattle.gf2.specs.Sets.{has}
use Rattle.gf2.proofs.Subsets.{⊆-refl}
use Rattle.flat.specs.Cards.{Code, Card, code_of, disks, set_ok}
use Rattle.flat.specs.Strips.{length_ok, byte_of}
use Rattle.flat.specs.Erasures.{undetermined_set, determined_set}
use Rattle.flat.specs.Rebuilding.{Agreeing, agreeing, restored}
use Rattle.flat.specs.Repairs.{filled, equation_among}
use Rattle.flat.specs.Faults.{Report, accepted, refused, card_report}
use Rattle.flat.proofs.Reports.{unless_number, unless_either}
use Rattle.flat.proofs.Tested.{tests_are, tests_number}
use Rattle.flat.proofs.Never.{Not, never_accepted, never_with, never_tests}
use Rattle.flat.proofs.Undetermined.{determined_in, determined_out}
use Rattle.flat.proofs.Agreement.{restored-filled}
use Rattle.flat.proofs.Rebuilds.{restored-long, restored_agreed, restored-others, some-accepted, none-refused, refused_or, reports_alike, restored-alike}
use Rattle.partial_rebuilding.specs.Faults.{found_report, partial_tests, partial_report, partial_stripe}
use Rattle.partial_rebuilding.specs.Theorems.{PartlyRestored, RightPartial, PartialRight, NeverFatal, PartialBytesUnread}

-- ---- an accepted call

-- it is accepted only where some content agrees
found_number : (U : ℕ) (found : List (List ℕ)) → (found_report U found).number ≡ 0 → found ≢ []
unfolding found_report
found_number U [] z e = omega arith
found_number U (c ∷ cs) z e = cons≢nil e

module _ (card : Card) (L S : ℕ) (stripe : List ℕ) (e : (partial_report card L S stripe).number ≡ 0) where
  accepted-found : agreeing (code_of card) L S stripe ≢ []
  unfolding partial_report partial_tests
  accepted-found =
      found_number (undetermined_set (code_of card) S) (agreeing (code_of card) L S stripe)
      (tests_number card L S (length stripe) (λ D. found_report (undetermined_set D S) (agreeing D L S stripe)) e)

  -- the determined disks are restored
  left : partial_stripe card L S stripe ≡ restored (code_of card) L (determined_set (code_of card) S) stripe (agreeing (code_of card) L S stripe)
  unfolding partial_stripe
  left =
      unless_number (partial_report card L S stripe) (restored (code_of card) L (determined_set (code_of card) S) stripe (agreeing (code_of card) L S stripe))
      stripe e

  -- each by its equation among the survivors
  pub partial-filled : length stripe ≡ disks (code_of card) * L
      → partial_stripe card L S stripe ≡ filled (disks (code_of card)) L (equation_among (code_of card) S) (determined_set (code_of card) S) stripe
  partial-filled long =
      left ∙ restored-filled (code_of card) L S (determined_set (code_of card) S) stripe long (⊆-refl (determined_set (code_of card) S)) accepted-found

-- ---- the stripe's length

stripe_long : (card : Card) (L S : ℕ) (stripe : List ℕ) → length stripe ≡ disks (code_of card) * L → length (partial_stripe card L S stripe) ≡ length stripe
unfolding partial_stripe
stripe_long card L S stripe e =
    unless_either (λ (s : List ℕ). length s ≡ length stripe) (partial_report card L S stripe) _ stripe
    (restored-long (code_of card) L (determined_set (code_of card) S) stripe (agreeing (code_of card) L S stripe) e) refl

-- ---- good arguments

module _ (card : Card) (k m S L : ℕ) (stripe : List ℕ) (ok : card_report card ≡ accepted (k ∷ m ∷ [])) (set : T (set_ok (code_of card) S))
    (len : T (length_ok L)) (whole : length stripe ≡ disks (code_of card) * L) where
  abbrev C : Code
  C = code_of card

  abbrev U : ℕ
  U = undetermined_set C S

  report : partial_report card L S stripe ≡ found_report U (agreeing C L S stripe)
  unfolding partial_report partial_tests
  report = tests_are card L S (length stripe) (λ D. found_report (undetermined_set D S) (agreeing D L S stripe)) (k ∷ m ∷ []) ok len set whole

  none_left : agreeing C L S stripe ≡ [] → partial_report card L S stripe ≡ refused 12 []
  unfolding found_report
  none_left e = report ∙ ap (found_report U) e

  some_left : (c : List ℕ) (cs : List (List ℕ)) → agreeing C L S stripe ≡ c ∷ cs → partial_report card L S stripe ≡ accepted (U ∷ [])
  unfolding found_report
  some_left c cs e = report ∙ ap (found_report U) e

  restored-right : (content : List ℕ) → Agreeing C L S stripe content → PartlyRestored card S L stripe content
  restored-right content a =
      let D = determined_set C S in
      let r = some-accepted C L S stripe (partial_report card L S stripe) (U ∷ []) none_left some_left content a in
      let e = left card L S stripe (ap (λ (x : Report). x.number) r) in
      let kept : (i t : ℕ) → i < disks C → t < L → (T (has D i) → ⊥) → byte_of L (partial_stripe card L S stripe) t i ≡ byte_of L stripe t i =
      λ i t l h f. ap (λ (x : List ℕ). byte_of L x t i) e ∙ restored-others C L S D stripe i t l h (agreeing C L S stripe) f in
      record {
        answer = r;
        determined = λ i t l h s u. ap (λ (x : List ℕ). byte_of L x t i) e ∙ restored_agreed C L S D stripe i t l h content a (determined_in C S i s u) u;
        undetermined = λ i t l h u. kept i t l h (λ g. (determined_out C S i g).1 u);
        survivors = λ i t l h s. kept i t l h (λ g. s (determined_out C S i g).0);
      }

  right : RightPartial card S L stripe
  right = record {
    none = none-refused C L S stripe (partial_report card L S stripe) (U ∷ []) none_left some_left;
    some = restored-right;
    decided = refused_or C L S stripe (partial_report card L S stripe) (U ∷ []) none_left some_left;
    long = stripe_long card L S stripe whole;
  }

pub partial-right : PartialRight
partial-right = right

-- ---- never 11

found_never : (U : ℕ) (found : List (List ℕ)) → Not 11 (found_report U found)
unfolding found_report
found_never U [] = record { differs = λ e. omega arith }
found_never U (c ∷ cs) = never_accepted 11 (omega arith, omega arith) (U ∷ [])

pub never_fatal : NeverFatal
unfolding partial_report partial_tests
never_fatal card L S stripe =
    let C = code_of card in
    let h : (5 < 11) × (11 < 22) = (omega arith, omega arith) in
    (never_with 11 h card (λ C. partial_tests C L S stripe)
    (never_tests 11 h C L S (length stripe) (omega arith) (found_never (undetermined_set C S) (agreeing C L S stripe)))).differs

-- ---- bytes of lost strips are unread

pub partial-bytes_unread : PartialBytesUnread
unfolding partial_report partial_tests
partial-bytes_unread card L S stripe other e same =
    let C = code_of card in
    let r = reports_alike card L S stripe other (λ D found. found_report (undetermined_set D S) found) e same in (
      r,
      λ z i t l s u h. ap (λ (x : List ℕ). byte_of L x t i) (left card L S stripe z)
          ∙ restored-alike C L S (determined_set C S) stripe other same (accepted-found card L S stripe z) i t l (determined_in C S i s u) h
          ∙ ap (λ (x : List ℕ). byte_of L x t i) (sym (left card L S other (sym (ap (λ (x : Report). x.number) r) ∙ z))),
    )
