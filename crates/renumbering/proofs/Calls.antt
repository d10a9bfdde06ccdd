-- What the calls do with two cards that are alike.
-- Assumes nothing.
use mathlib.Core.Path.{◌≡◌, sym, ap, ap₂, ◌∙◌, subst}
use mathlib.Core.Logic.{◌↔◌}
use mathlib.Core.Bool.{Bool, true, false, not}
use mathlib.Core.List.{List, [], ◌∷◌, map}
use Prim.Native.Nat.{ℕ, ◌+◌, ◌*◌, ◌<◌}
use native.Mathlib.Omega.{arith}
use lib.Dec.{T, eqb, ltb}
use lib.ListN.{length, get_or, length-map}
use lib.Seq.{get_or-take}
use Rattle.std.specs.Prelude.{if◌then◌else◌}
use Rattle.gf2.proofs.Tests.{T_true, T_false}
use Rattle.flat.specs.Lists.{padded}
use Rattle.flat.specs.Cards.{Code, Card, code_of, disks}
use Rattle.flat.specs.Strips.{length_ok, byte_of, holds, encoded}
use Rattle.flat.specs.Erasures.{erasures}
use Rattle.flat.specs.Alike.{alike}
use Rattle.flat.specs.Faults.{Report, accepted, refused, unless_refused, yes_no, card_report, with_card, encode_tests, encode_report, encode_stripe, list_report, erasures_report, erasures_vector, erasures_slice, alike_report}
use Rattle.flat.proofs.Lists.{entry-map}
use Rattle.flat.proofs.Reports.{with_accepted, with_out, list_counted, unless_accepted, unless_not}
use Rattle.flat.proofs.Editions.{card-accepted}
use Rattle.flat.proofs.Words.{holds_cong}
use Rattle.flat.proofs.Positions.{encoded-byte}
use Rattle.flat.proofs.Verdicts.{erasures-written}
use Rattle.renumbering.specs.Renumbering.{Renumbering, place, renumbered}
use Rattle.renumbering.specs.Theorems.{Matched, Read, AlikeAnswered}
use Rattle.renumbering.proofs.Alike.{alike_renumbers}
use Rattle.renumbering.proofs.Entries.{disks_interchange, erasures_match}

disks-same : (A B : Code) → A.k ≡ B.k → A.m ≡ B.m → disks A ≡ disks B
unfolding disks
disks-same A B p q = ap₂ ◌+◌ p q

-- two accepted cards, and a renumbering that carries the one's code to the other's
module _ (first second : Card) (k m : ℕ) (p : card_report first ≡ accepted (k ∷ m ∷ [])) (q : card_report second ≡ accepted (k ∷ m ∷ []))
    (π : ℕ → ℕ) (r : Renumbering (code_of first) (code_of second) π) where
  abbrev A : Code
  A = code_of first

  abbrev B : Code
  B = code_of second

  lists : erasures B ≡ map (renumbered A π) (erasures A)
  lists = (erasures_match A B π r).0

  answers : (n : ℕ) → erasures_report second n ≡ erasures_report first n
  unfolding erasures_report list_report
  answers n =
      with_accepted second (k ∷ m ∷ []) (λ C. list_report (erasures C) n) q
      ∙ ap (λ (l : ℕ). if ltb n l then refused 10 (l ∷ []) else accepted (l ∷ [])) (ap length lists ∙ length-map (erasures A) (renumbered A π))
      ∙ sym (with_accepted first (k ∷ m ∷ []) (λ C. list_report (erasures C) n) p)

  vectors : (n : ℕ) → erasures_vector second n ≡ erasures_vector first n
  unfolding erasures_vector
  vectors n = ap₂ (λ (a : Report) (l : List ℕ). padded 17 (unless_refused a l [])) (answers n) (erasures_match A B π r).1

  module _ (slice other : List ℕ) (c d : ℕ)
      (a : erasures_report first (length slice) ≡ accepted (c ∷ [])) (b : erasures_report second (length other) ≡ accepted (d ∷ [])) where
    counted : (card : Card) (n c : ℕ) → erasures_report card n ≡ accepted (c ∷ []) → length (erasures (code_of card)) ≡ c
    unfolding erasures_report
    counted card n c e = (list_counted (erasures (code_of card)) n c (with_out card (c ∷ []) (λ C. list_report (erasures C) n) e).1).0

    as_many : d ≡ c
    as_many =
        sym (counted second (length other) d b) ∙ ap length lists ∙ length-map (erasures A) (renumbered A π) ∙ counted first (length slice) c a

    -- an entry that is written is the list's
    written : (card : Card) (kept : List ℕ) (n : ℕ) → card_report card ≡ accepted (k ∷ m ∷ []) → erasures_report card (length kept) ≡ accepted (n ∷ [])
        → (e : ℕ) → e < n → get_or (erasures_slice card kept) e 0 ≡ get_or (erasures (code_of card)) e 0
    written card kept n ok f e l =
        sym (get_or-take n (erasures_slice card kept) e 0 l) ∙ ap (λ (xs : List ℕ). get_or xs e 0) (erasures-written card k m ok kept n f)

    matches : (e : ℕ) → e < c → get_or (erasures_slice second other) e 0 ≡ renumbered A π (get_or (erasures_slice first slice) e 0)
    matches e l =
        written second other d q b e (omega (arith, as_many)) ∙ ap (λ (xs : List ℕ). get_or xs e 0) lists
        ∙ entry-map (renumbered A π) (erasures A) e (omega (arith, counted first (length slice) c a))
        ∙ ap (renumbered A π) (sym (written first slice c p a e l))

  -- the encoder's tests go by the number of disks
  encodes : (L n : ℕ) → encode_report second L n ≡ encode_report first L n
  unfolding encode_report encode_tests disks
  encodes L n =
      with_accepted second (k ∷ m ∷ []) (λ C. encode_tests C L n) q
      ∙ ap₂ (λ (i j : ℕ). if not (length_ok L) then refused 6 [] else if not (eqb n ((i + j) * L)) then refused 7 [] else accepted [])
      (sym r.same_k) (sym r.same_m)
      ∙ sym (with_accepted first (k ∷ m ∷ []) (λ C. encode_tests C L n) p)

  module _ (L t d : ℕ) (stripe other : List ℕ) (e : encode_report first L (length stripe) ≡ accepted []) (f : length other ≡ length stripe)
      (l : t < L) (same : (i : ℕ) → i < A.k → byte_of L other t i ≡ byte_of L stripe t i) (h : d < disks A) where
    -- a byte that the encoder leaves
    left : (card : Card) (s : List ℕ) (i : ℕ) → encode_report card L (length s) ≡ accepted [] → i < disks (code_of card)
        → byte_of L (encode_stripe card L s) t i ≡ holds (code_of card) (byte_of L s t) i
    unfolding encode_stripe
    left card s i g b =
        ap (λ (x : List ℕ). byte_of L x t i) (unless_accepted (encode_report card L (length s)) [] (encoded (code_of card) L s) s g)
        ∙ encoded-byte (code_of card) L s t i l b

    strips : byte_of L (encode_stripe second L other) t (place A π d) ≡ byte_of L (encode_stripe first L stripe) t d
    strips =
        let i = disks_interchange A B π r in
        left second other (place A π d) (ap (encode_report second L) f ∙ encodes L (length stripe) ∙ e)
        (subst (λ (n : ℕ). place A π d < n) (disks-same A B r.same_k r.same_m) (i.permutes.below d h))
        ∙ i.same (byte_of L other t) d h ∙ holds_cong A (byte_of L other t) (byte_of L stripe t) d same ∙ sym (left first stripe d e h)

  matched : Matched first second π
  matched = record {
    answers = answers;
    vectors = vectors;
    lists = λ slice other c d a b. (as_many slice other c d a b, matches slice other c d a b);
    encodes = encodes;
    strips = strips;
  }

-- ---- the answer

-- yes and no are two answers
said : (b : Bool) (n : ℕ) → accepted (yes_no b ∷ []) ≡ accepted (n ∷ []) → yes_no b ≡ n
said b n e = ap (λ (r : Report). get_or r.values 0 0) e

said_yes : (b : Bool) → yes_no b ≡ 1 → T b
unfolding yes_no
said_yes true e = tt
said_yes false e = absurd (omega arith)

said_no : (b : Bool) → yes_no b ≡ 0 → T b → ⊥
unfolding yes_no
said_no true e t = omega arith
said_no false e t = t

module _ (first second : Card) where
  abbrev same : Bool
  same = alike (code_of first) (code_of second)

  -- an accepted answer is about two accepted cards
  both : (n : ℕ) → alike_report first second ≡ accepted (n ∷ []) → Read first × Read second × (yes_no same ≡ n)
  unfolding alike_report
  both n e =
      let a = with_out first (n ∷ []) (λ A. with_card second (λ B. accepted (yes_no (alike A B) ∷ []))) e in
      let b = with_out second (n ∷ []) (λ B. accepted (yes_no (alike (code_of first) B) ∷ [])) a.1 in
      ((_, _, card-accepted first a.0), (_, _, card-accepted second b.0), said same n b.1)

  -- and two accepted cards are answered
  answer : Read first → Read second → (b : Bool) → same ≡ b → alike_report first second ≡ accepted (yes_no b ∷ [])
  unfolding alike_report
  answer (k, m, p) (i, j, q) b e =
      with_accepted first (k ∷ m ∷ []) (λ A. with_card second (λ B. accepted (yes_no (alike A B) ∷ []))) p
      ∙ with_accepted second (i ∷ j ∷ []) (λ B. accepted (yes_no (alike (code_of first) B) ∷ [])) q
      ∙ ap (λ (x : Bool). accepted (yes_no x ∷ [])) e

  -- with such a renumbering the cards' counts are the same
  found : Read first → Read second → (π : ℕ → ℕ) → Renumbering (code_of first) (code_of second) π → Matched first second π
  found (k, m, p) (i, j, q) π r =
      let c = card-accepted first (ap (λ (x : Report). x.number) p) in
      let d = card-accepted second (ap (λ (x : Report). x.number) q) in
      matched first second (code_of first).k (code_of first).m c
      (d ∙ ap₂ (λ (k m : ℕ). accepted (k ∷ m ∷ [])) (sym r.same_k) (sym r.same_m)) π r

pub alike-answered : AlikeAnswered
unfolding alike_report with_card yes_no
alike-answered first second = record {
  first_refused = λ f. unless_not (card_report first) (with_card second (λ B. accepted (yes_no (alike (code_of first) B) ∷ []))) (card_report first) f;
  second_refused = λ (k, m, p) f. with_accepted first (k ∷ m ∷ []) (λ A. with_card second (λ B. accepted (yes_no (alike A B) ∷ []))) p
      ∙ unless_not (card_report second) (accepted (yes_no (same first second) ∷ [])) (card_report second) f;
  yes = (
    λ e. let (a, b, y) = both first second 1 e in (a, b, renumbers.0 (said_yes (same first second) y)),
    λ (a, b, c). answer first second a b true (T_true {b = same first second} (renumbers.1 c)),
  );
  no = (
    λ e. let (a, b, n) = both first second 0 e in (a, b, λ π r. said_no (same first second) n (renumbers.1 (π, r))),
    λ (a, b, f). answer first second a b false (T_false {b = same first second} (λ t. let (π, r) = renumbers.0 t in f π r)),
  );
  matched = λ e. let (a, b, _) = both first second 1 e in found first second a b;
}
  where
    renumbers : T (same first second) ↔ ((π : ℕ → ℕ) × Renumbering (code_of first) (code_of second) π)
    renumbers = alike_renumbers (code_of first) (code_of second)
