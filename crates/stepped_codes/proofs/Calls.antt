-- What an accepted call does: it writes what the card writer would, and the card reader and the lister take that as the theorems say.
-- Assumes nothing.
use mathlib.Core.Path.{◌≡◌, sym, ap, ◌∙◌, subst}
use mathlib.Core.Bool.{true, not}
use mathlib.Core.List.{List, [], ◌∷◌}
use Prim.Native.Nat.{ℕ, zero, suc, ◌≤◌, ◌<◌}
use native.Mathlib.Omega.{arith}
use borrow.Author.Tests.{eqb-true, not-false}
use lib.Dec.{T, eqb}
use lib.ListN.{length, take}
use Rattle.gf2.specs.Sets.{has, size}
use Rattle.gf2.proofs.Tests.{true-T}
use Rattle.gf2.proofs.Subsets.{⊆-refl}
use Rattle.gf2.proofs.Sizes.{size-⊆}
use Rattle.gf2.proofs.Made.{has-set}
use Rattle.flat.specs.Lists.{member}
use Rattle.flat.specs.declared.Edition.TheVariants.{First}
use Rattle.flat.specs.Cards.{Code, count_ok, card_length, card_bytes, edition_bytes, code_of, column, edition_one}
use Rattle.flat.specs.Erasures.{fatal, erasures}
use Rattle.flat.specs.Faults.{accepted, card_report, card_write_report, card_write_buffer, erasures_report, erasures_slice}
use Rattle.flat.proofs.Lists.{length-tabulate, get_d_tabulate}
use Rattle.flat.proofs.Cards.{Sound}
use Rattle.flat.proofs.RoundTrip.{Writable, one_writable, write-accepted}
use Rattle.flat.proofs.Reports.{passed-number, unless_accepted}
use Rattle.flat.proofs.Verdicts.{erasures-written}
use Rattle.flat.proofs.Theorems.{card_reads_back, fatal-holds-listed}
use Rattle.stepped_codes.specs.Stepped.{distance_ok, parity_sets, parity_set, stepped_column, stepped, within_bounds}
use Rattle.stepped_codes.specs.Faults.{stepped_report, stepped_buffer}
use Rattle.stepped_codes.specs.Theorems.{SteppedAccepted}
use Rattle.stepped_codes.proofs.Bounds.{no-parity}
use Rattle.stepped_codes.proofs.Codes.{distance, enough, stepped-sound, least-fatal}

-- what the tests of an accepted call tell
pub record Passed (d m k n : ℕ) : Type 0 where
  pub k_ok : count_ok k ≡ true
  pub m_ok : count_ok m ≡ true
  pub d_ok : T (distance_ok d)
  pub within : T (within_bounds d m k)
  pub long : n ≡ card_length m
  pub answered : stepped_report d m k n ≡ accepted []

pub call_passed : (d m k n : ℕ) → (stepped_report d m k n).number ≡ 0 → Passed d m k n
unfolding stepped_report
call_passed d m k n e =
    let a = passed-number (not (count_ok k)) 1 [] _ e in
    let b = passed-number (not (count_ok m)) 2 [] _ a.1 in
    let c = passed-number (not (distance_ok d)) 19 [] _ b.1 in
    let w = passed-number (not (within_bounds d m k)) 20 [] _ c.1 in
    let s = passed-number (not (eqb n (card_length m))) 6 [] (accepted []) w.1 in
    record {
      k_ok = not-false (count_ok k) a.0;
      m_ok = not-false (count_ok m) b.0;
      d_ok = true-T (not-false (distance_ok d) c.0);
      within = true-T (not-false (within_bounds d m k) w.0);
      long = eqb-true n (card_length m) (not-false (eqb n (card_length m)) s.0);
      answered = a.2 ∙ b.2 ∙ c.2 ∙ w.2 ∙ s.2;
    }

module _ (d m k n : ℕ) (p : Passed d m k n) where
  pub sets-enough : k ≤ length (parity_sets d m)
  sets-enough = go m p.within
    where
      go : (m : ℕ) → T (within_bounds d m k) → k ≤ length (parity_sets d m)
      go zero t = absurd (no-parity d k t)
      go (suc i) t = enough d i k p.d_ok t

  pub card_writable : Writable First (stepped d m k) [] n
  unfolding stepped
  card_writable = one_writable (stepped d m k) n (go m p.m_ok p.within) (length-tabulate m (stepped_column d m k)) p.long
    where
      go : (m : ℕ) → count_ok m ≡ true → T (within_bounds d m k) → Sound (stepped d m k)
      go zero o t = absurd (no-parity d k t)
      go (suc i) o t = stepped-sound d i k p.d_ok t p.k_ok o

  least-lost : (S : ℕ) × T (fatal (stepped d m k) S) × (size S ≡ d)
  least-lost = go m p.within
    where
      go : (m : ℕ) → T (within_bounds d m k) → (S : ℕ) × T (fatal (stepped d m k) S) × (size S ≡ d)
      go zero t = absurd (no-parity d k t)
      go (suc i) t = least-fatal d i k p.d_ok t

  -- ---- the listed sets

  listed_large : (S : ℕ) → T (member S (erasures (stepped d m k))) → d ≤ size S
  listed_large S t = distance d m k S p.d_ok p.within ((fatal-holds-listed (stepped d m k) S).1 (S, t, ⊆-refl S))

  least-listed : (S : ℕ) × T (member S (erasures (stepped d m k))) × (size S ≡ d)
  least-listed =
      let f = least-lost in
      let r = (fatal-holds-listed (stepped d m k) f.0).0 f.1 in
      let q = f.2 in
      (r.0, r.1, omega (arith, listed_large r.0 r.1, size-⊆ r.0 f.0 r.2))

-- parity disk j's column names the data disks whose parity set has it
named_by : (d m k i j : ℕ) → i < k → j < m → has (column (stepped d m k) j) i ≡ has (parity_set d m i) j
unfolding column stepped stepped_column
named_by d m k i j h l =
    ap (λ (c : ℕ). has c i) (get_d_tabulate m (stepped_column d m k) j l) ∙ has-set k (λ e. has (parity_set d m e) j) i h

-- where the call writes, it writes what the card writer does
pub same-written : (d m k : ℕ) (buffer : List ℕ) → Passed d m k (length buffer) → stepped_buffer d m k buffer ≡ card_write_buffer First (stepped d m k) [] buffer
unfolding stepped_buffer card_write_buffer edition_bytes
same-written d m k buffer p =
    let C = stepped d m k in
    unless_accepted (stepped_report d m k (length buffer)) [] (card_bytes C) buffer p.answered
    ∙ sym (unless_accepted (card_write_report First C [] (length buffer)) [] (card_bytes C) buffer (write-accepted First C [] (length buffer) (card_writable d m k (length buffer) p)))

pub stepped-accepted : SteppedAccepted
unfolding stepped
stepped-accepted d m k buffer e =
    let n = length buffer in
    let p = call_passed d m k n e in
    let C = stepped d m k in
    let card = edition_one (stepped_buffer d m k buffer) in
    let same = ap edition_one (same-written d m k buffer p) in
    let back = card_reads_back First C [] buffer (write-accepted First C [] n (card_writable d m k n p)) in
    let read : card_report card ≡ accepted (k ∷ m ∷ []) = ap card_report same ∙ back.0 in
    let is : code_of card ≡ C = ap code_of same ∙ back.3 in
    let written : (slice : List ℕ) (count : ℕ) → erasures_report card (length slice) ≡ accepted (count ∷ [])
    → take count (erasures_slice card slice) ≡ erasures C =
    λ slice count a. erasures-written card k m read slice count a ∙ ap erasures is in
    record {
      answer = p.answered;
      read = read;
      code = is;
      named = λ i j h l. ap (λ (D : Code). has (column D j) i) is ∙ named_by d m k i j h l;
      enough = sets-enough d m k n p;
      listed = λ slice count S a t. listed_large d m k n p S (subst (λ (l : List ℕ). T (member S l)) (written slice count a) t);
      least = λ slice count a. let r = least-listed d m k n p in
          (r.0, subst (λ (l : List ℕ). T (member r.0 l)) (sym (written slice count a)) r.1, r.2);
    }
