-- The proofs of specs/Theorems.antt: how long the lines of a listing are at most, and that a buffer that holds the text shows it.
-- Assumes nothing.
use mathlib.Core.Path.{◌≡◌, refl, sym, ap, ◌∙◌}
use mathlib.Core.Bool.{Bool, true, false}
use mathlib.Core.Logic.{⊎_elim}
use mathlib.Core.List.{List, [], ◌∷◌, ◌++◌}
use Prim.Native.Nat.{ℕ, ◌≤◌, ◌<◌}
use native.Mathlib.Nat.{mul-le-mul_left}
use native.Mathlib.Omega.{arith}
use borrow.Author.Tests.{ltb-false, eqb-true, le-leb}
use lib.Dec.{ltb, eqb}
use lib.ListN.{length, drop, length-append}
use lib.Pow.{pow_mono}
use lib.Seq.{take_at}
use Rattle.std.specs.Prelude.{if◌then◌else◌}
use Rattle.gf2.specs.Sets.{size}
use Rattle.flat.specs.Lists.{range, filter}
use Rattle.flat.specs.Cards.{Code, code_of, disks, edition_one}
use Rattle.flat.specs.Erasures.{erasures, places, vector}
use Rattle.flat.specs.Faults.{Report, accepted, unless_refused, card_report, list_report, erasures_report}
use Rattle.flat.proofs.Members.{In, in_cons, in_nil, map_out}
use Rattle.flat.proofs.Reports.{passed-number, with_out, with_number}
use Rattle.flat.proofs.Cards.{count_in}
use Rattle.flat.proofs.Editions.{accepted-card, card-accepted}
use Rattle.flat.proofs.ErasuresListed.{erasures_out}
use Rattle.flat.proofs.Vector.{vector-length}
use Rattle.flat.proofs.Filters.{filter-length}
use Rattle.export_bounds.proofs.ListLengths.{erasures-few}
use Rattle.export_bounds.proofs.Values.{erasures_fits}
use Rattle.text.specs.Decimal.{decimal}
use Rattle.text.proofs.Digits.{length_most}
use Rattle.text.proofs.Pieces.{each-most}
use Rattle.text.specs.Lines.{entry_line}
use Rattle.text.specs.Text.{code_word, vector_word, refused_word, listing_text, refused_text}
use Rattle.text.specs.Answers.{text_answer, text_buffer}
use Rattle.text.proofs.Lengths.{entry-most, line-most, length-listing}
use Rattle.render.specs.Printed.{printed, shown_part}
use Rattle.render.specs.Theorems.{longest, PrintedShort, PrintedWhole, EditionKept}

-- ---- a listing

module _ (C : Code) (hk : C.k ≤ 16) (hm : C.m ≤ 16) where
  few : length (erasures C) < 65536
  few = omega (arith, erasures-few C, pow_mono {i = C.k} {j = 16} hk)

  -- each number of the vector counts some of the entries
  vector-few : (v : ℕ) → In v (vector C) → v < 65536
  unfolding vector
  vector-few v t =
      let r = map_out (λ i. length (filter (λ S. eqb (size S) i) (erasures C))) v (range 1 (places C)) t in
      omega (arith, few, r.2, filter-length (λ S. eqb (size S) r.0) (erasures C))

  -- k and m have at most 2 digits
  counts-most : (v : ℕ) → In v (C.k ∷ C.m ∷ []) → length (decimal v) ≤ 2
  counts-most v t =
      length_most 1 v
      (⊎_elim (λ e. omega arith) (λ u. ⊎_elim (λ e. omega arith) (λ w. absurd (in_nil v w)) (in_cons v C.m [] u)) (in_cons v C.k (C.m ∷ []) t))

  listing-most : length (listing_text C.k C.m (erasures C) (vector C)) ≤ longest (length (erasures C))
  unfolding disks
  listing-most =
      omega (
        arith,
        length-listing C.k C.m (erasures C) (vector C),
        line-most 2 code_word (C.k ∷ C.m ∷ []) counts-most,
        each-most entry_line 14 (erasures C) (λ S t. entry-most (disks C) S (omega arith) (erasures_out C S t).0),
        line-most 5 vector_word (vector C) (λ v t. length_most 4 v (omega (arith, vector-few v t))),
        vector-length C,
      )

-- the list is written only where it fits, for a card that is accepted
module _ (card : List ℕ) (n : ℕ) (h : (erasures_report (edition_one card) n).number ≡ 0) where
  abbrev C : Code
  C = code_of (edition_one card)

  listed : (length (erasures C) ≤ n) × ((card_report (edition_one card)).number ≡ 0)
  unfolding erasures_report list_report
  listed =
      let w = with_number (edition_one card) (λ D. list_report (erasures D) n) h in
      let p = passed-number (ltb n (length (erasures C))) 9 (length (erasures C) ∷ []) (accepted (length (erasures C) ∷ [])) (ap (λ (r : Report). r.number) (sym w) ∙ h) in
      (ltb-false n (length (erasures C)) p.0, (with_out (edition_one card) (length (erasures C) ∷ []) (λ D. list_report (erasures D) n) (w ∙ p.2)).0)

  listing-short : length (listing_text C.k C.m (erasures C) (vector C)) ≤ longest n
  listing-short =
      let s = (accepted-card (edition_one card) C.k C.m (card-accepted (edition_one card) listed.1)).sound in
      omega (arith, listing-most C (count_in C.k s.k_ok).1 (count_in C.m s.m_ok).1, mul-le-mul_left 14 listed.0)

refusal_short : (card : List ℕ) (n : ℕ) → length (refused_text (erasures_report (edition_one card) n).number) ≤ longest n
unfolding refused_text
refusal_short card n =
    let number = (erasures_report (edition_one card) n).number in
    let few : (v : ℕ) → In v (number ∷ []) → length (decimal v) ≤ 3 =
    λ v t. length_most 2 v (⊎_elim (λ e. omega (arith, (erasures_fits (edition_one card) n).number_fits)) (λ u. absurd (in_nil v u)) (in_cons v number [] t)) in
    omega (arith, line-most 3 refused_word (number ∷ []) few)

printed-most : (card : List ℕ) (n : ℕ) → length (printed card n) ≤ longest n
unfolding printed unless_refused
printed-most card n = go (eqb (erasures_report (edition_one card) n).number 0) refl
  where
    go : (t : Bool) → eqb (erasures_report (edition_one card) n).number 0 ≡ t
        → let C = code_of (edition_one card) in
        length (if t then listing_text C.k C.m (erasures C) (vector C) else refused_text (erasures_report (edition_one card) n).number) ≤ longest n
    go true e = listing-short card n (eqb-true (erasures_report (edition_one card) n).number 0 e)
    go false e = refusal_short card n

pub printed-short : PrintedShort
printed-short card n = omega (arith, printed-most card n)

-- ---- what is shown

pub printed-whole : PrintedWhole
unfolding shown_part text_answer text_buffer
printed-whole card buffer n h =
    let t = printed card n in
    let l : length t ≤ length buffer = omega (arith, printed-most card n) in
    let m : length t ≤ length (t ++ drop (length t) buffer) = omega (arith, length-append t (drop (length t) buffer)) in
    simp (le-leb (length t) (length buffer) l, le-leb (length t) (length (t ++ drop (length t) buffer)) m) (take_at t (drop (length t) buffer) (length t) refl)

-- ---- edition 1

pub edition-kept : EditionKept
unfolding printed
edition-kept = (refl, refl)
