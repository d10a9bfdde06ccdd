-- The bodies of an accepted record: what the body call and the call beside it answer for each disk.
-- Assumes nothing.
use mathlib.Core.Path.{◌≡◌, sym, ap, ap₂, ◌∙◌}
use mathlib.Core.Logic.{◌⊎◌, inl, inr}
use mathlib.Core.List.{List, [], ◌∷◌}
use Prim.Native.Nat.{ℕ, suc, ◌+◌, ◌≤◌, ◌<◌}
use native.Mathlib.Omega.{arith}
use borrow.Author.Tests.{lt-ltb, le-ltb}
use lib.Dec.{T}
use lib.ListN.{length, take, drop, length-drop}
use lib.Seq.{length-take-le}
use Rattle.gf2.specs.Sets.{has}
use Rattle.gf2.proofs.Tests.{dec, below_or, if_true, if_false}
use Rattle.flat.specs.Cards.{disks, card_length}
use Rattle.flat.specs.Faults.{Report, accepted, refused}
use Rattle.flat.proofs.Reports.{unless_accepted}
use Rattle.flat.proofs.Lengths.{length_in_lem}
use Rattle.record_format.specs.Records.{strips_at, body_at, body_in, lost_in}
use Rattle.record_format.specs.Faults.{record_report, body_tests, body_report, body_part}
use Rattle.record_format.proofs.Received.{Received, received, with_received, with_refused_record, body-there}

-- a refused record has no bodies
pub body_refused : (file : List ℕ) (n : ℕ) (vs : List ℕ) → record_report file ≡ refused (suc n) vs → (d : ℕ) → body_report file d ≡ refused (suc n) vs
unfolding body_report
body_refused file n vs e d = with_refused_record file n vs (λ C. body_tests (disks C) (lost_in (disks C) file) d) e

module _ (file : List ℕ) (k m L S : ℕ) (e : record_report file ≡ accepted (k ∷ m ∷ L ∷ S ∷ [])) where
  r : Received file k m L S
  r = received file k m L S e

  -- the tests 9 and 16
  tested : (d : ℕ) → body_report file d ≡ body_tests (k + m) S d
  unfolding body_report disks
  tested d =
      with_received file k m L S e (λ C. body_tests (disks C) (lost_in (disks C) file) d)
      ∙ ap (λ (n : ℕ). body_tests n (lost_in n file) d) (ap₂ ◌+◌ r.is_k r.is_m) ∙ ap (λ (s : ℕ). body_tests (k + m) s d) r.lost

  pub body_beyond : (d : ℕ) → k + m ≤ d → body_report file d ≡ refused 9 []
  unfolding body_tests
  body_beyond d l = tested d ∙ rw (le-ltb d (k + m) l)

  pub body-lost : (d : ℕ) → d < k + m → T (has S d) → body_report file d ≡ refused 16 []
  unfolding body_tests
  body-lost d l t = tested d ∙ rw (lt-ltb d (k + m) l) (if_true (has S d) _ _ t)

  pub body-accepted : (d : ℕ) → d < k + m → (T (has S d) → ⊥) → body_report file d ≡ accepted []
  unfolding body_tests
  body-accepted d l f = tested d ∙ rw (lt-ltb d (k + m) l) (if_false (has S d) _ _ f)

  abbrev place : ℕ → ℕ
  place = body_at (strips_at (k + m) (card_length m)) L S

  -- the body of a disk that is not lost is L bytes of the file
  pub body_part_lem : (d : ℕ) → d < k + m → (T (has S d) → ⊥) → body_part file d ≡ take L (drop (body_at (strips_at (k + m) (card_length m)) L S d) file)
  unfolding body_part body_in
  body_part_lem d l f =
      let p = body-there file k m L S r d l f in
      unless_accepted (body_report file d) [] (body_in file (suc d)) [] (body-accepted d l f)
      ∙ ap₂ (λ (n at : ℕ). take n (drop at file)) p.1 p.0

  pub length-body : (d : ℕ) → d < k + m → (T (has S d) → ⊥) → length (body_part file d) ≡ L
  length-body d l f =
      ap (λ (l : List ℕ). length l) (body_part_lem d l f)
      ∙ length-take-le L (drop (place d) file) (omega (arith, length-drop (place d) file, (body-there file k m L S r d l f).2))

  -- where the call beside it accepts, the body is not empty
  pub body-filled : (d : ℕ) → (body_report file d).number ≡ 0 → body_part file d ≡ [] → ⊥
  body-filled d z n = go (below_or d (k + m)) (dec (has S d))
    where
      refusal : (i : ℕ) → body_report file d ≡ refused (suc i) [] → ⊥
      refusal i q = let w : suc i ≡ 0 = sym (ap (λ (x : Report). x.number) q) ∙ z in omega arith

      go : (d < k + m) ⊎ (k + m ≤ d) → T (has S d) ⊎ (T (has S d) → ⊥) → ⊥
      go (inr l) t = refusal 8 (body_beyond d l)
      go (inl l) (inl t) = refusal 15 (body-lost d l t)
      go (inl l) (inr f) =
          let w : 0 ≡ L = ap (λ (xs : List ℕ). length xs) (sym n) ∙ length-body d l f in omega (arith, length_in_lem L r.length_ok_lem)
