-- What the body call answers, and which part of the file it lends, by what the reader's check found.
-- Assumes nothing.
use mathlib.Core.Path.{◌≡◌, refl, sym, ap, ap₂, ◌∙◌, subst}
use mathlib.Core.Bool.{true, false}
use mathlib.Core.List.{List, [], ◌∷◌}
use Prim.Native.Nat.{ℕ, suc, ◌+◌, ◌-◌, ◌≤◌, ◌<◌}
use native.Mathlib.Omega.{arith}
use lib.Dec.{eqb}
use lib.ListN.{length, take, drop}
use Rattle.std.specs.Prelude.{Result, Ok, Err, IfOk}
use Rattle.std.specs.Result.{result_unwrap_or}
use Rattle.gf2.specs.Sets.{has}
use Rattle.gf2.proofs.Tests.{true-T, false-T}
use Rattle.flat.specs.Cards.{disks, card_length}
use Rattle.flat.specs.Faults.{Report, accepted, refused}
use Rattle.flat.proofs.Reports.{unless_accepted, unless_other}
use Rattle.record_format.specs.Records.{strips_at, body_at, offset_in, body_length_in, body_in, lost_in}
use Rattle.record_format.specs.Faults.{record_report, body_tests, body_report, body_part}
use Rattle.record_format.proofs.Received.{body-there}
use Rattle.record_format.proofs.Bodies.{body_beyond, body-lost, body-accepted}
use Rattle.record_reader.specs.declared.RecordFault.{RecordFault}
use Rattle.record_reader.specs.Reports.{record_fault_report}
use Rattle.record_reader.proofs.Callers.{GoodRecord, good, bad_record, bad_refuses}
use Rattle.record.specs.declared.bodies.BodyPlace.{BodyPlace}
use Rattle.record.specs.declared.bodies.BodyError.{BodyError}
use Rattle.record.specs.declared.bodies.BodyError.TheVariants as error
use Rattle.record.specs.Reports.{error_report, report, there as there_or_not}

-- ---- a good record

module _ (file : List ℕ) (k m L S : ℕ) (found : accepted (k ∷ m ∷ L ∷ S ∷ []) ≡ record_report file) where
  pub g : GoodRecord file k m L S
  g = good file k m L S found

  pub no_disk : (d : ℕ) → k + m ≤ d → refused 9 [] ≡ body_report file d
  no_disk d l = sym (body_beyond file k m L S g.found d l)

  pub lost-disk : (d : ℕ) → d < k + m → has S d ≡ true → refused 16 [] ≡ body_report file d
  lost-disk d l h = sym (body-lost file k m L S g.found d l (true-T h))

  -- where it stands
  module _ (d start at : ℕ) (l : d < k + m) (h : has S d ≡ false) (s : start ≡ strips_at (k + m) (card_length m)) (e : at ≡ body_at start L S d) where
    pub there : accepted [] ≡ body_report file d
    there = sym (body-accepted file k m L S g.found d l (false-T h))

    pub there-at : (at ≡ offset_in file (suc d)) × (L ≡ body_length_in file (suc d))
    there-at =
        let t = body-there file k m L S g.known d l (false-T h) in
        (e ∙ ap (λ (x : ℕ). body_at x L S d) s ∙ sym t.0, sym t.1)

    pub there-within : at + L ≤ length file
    there-within =
        let t = body-there file k m L S g.known d l (false-T h) in
        let is : at ≡ body_at (strips_at (k + m) (card_length m)) L S d = e ∙ ap (λ (x : ℕ). body_at x L S d) s in
        omega (arith, t.2)

-- ---- a refused call, and the part that is lent

pub bad_place : (file : List ℕ) (d : ℕ) (f : RecordFault) → record_fault_report f ≡ record_report file → record_fault_report f ≡ body_report file d
unfolding body_report
bad_place file d f e = sym (bad_record file f (λ C. body_tests (disks C) (lost_in (disks C) file) d) e)

-- the part that the code lends is the body that the entry names
pub body_lent : (file : List ℕ) (d at len : ℕ) → accepted [] ≡ body_report file d → (at ≡ offset_in file (suc d)) × (len ≡ body_length_in file (suc d))
    → take (at + len - at) (drop at file) ≡ body_part file d
unfolding body_part body_in
body_lent file d at len r p =
    let e : at + len - at ≡ len = omega arith in
    ap (λ (x : ℕ). take x (drop at file)) e ∙ ap₂ (λ (x y : ℕ). take x (drop y file)) p.1 p.0
    ∙ sym (unless_accepted (body_report file d) [] (take (body_length_in file (suc d)) (drop (offset_in file (suc d)) file)) [] (sym r))

-- an error's number is not 0
refuses : (e : BodyError) → eqb (error_report e).number 0 ≡ false
refuses (error.Record f) = bad_refuses f
refuses error.NoDisk = refl
refuses error.Lost = refl

-- no part is lent where the call beside refuses
none_lent : (file : List ℕ) (d : ℕ) (e : BodyError) → error_report e ≡ body_report file d → [] ≡ body_part file d
unfolding body_part
none_lent file d e q = unless_other (body_report file d) (body_in file (suc d)) [] (ap (λ (r : Report). eqb r.number 0) (sym q) ∙ refuses e)

-- the place that `body` takes: the strip's, or the file's front where the strip is not there
module _ (file : List ℕ) (d : ℕ) (answer : Result BodyPlace BodyError) (place : BodyPlace) (is : place ≡ result_unwrap_or answer (record { at = 0; len = 0 })) where
  within : (a : Result BodyPlace BodyError) → IfOk a (λ p. p.at + p.len ≤ length file) → let p = result_unwrap_or a (record { at = 0; len = 0 }) in p.at + p.len ≤ length file
  within (Ok p) h = h
  within (Err _) _ = omega arith

  pub taken_within : IfOk answer (λ p. p.at + p.len ≤ length file) → place.at + place.len ≤ length file
  taken_within h = subst (λ (p : BodyPlace). p.at + p.len ≤ length file) (sym is) (within answer h)

  lent : (a : Result BodyPlace BodyError) → report (there_or_not a) ≡ body_report file d
      → IfOk a (λ p. (p.at ≡ offset_in file (suc d)) × (p.len ≡ body_length_in file (suc d)))
      → let p = result_unwrap_or a (record { at = 0; len = 0 }) in take (p.at + p.len - p.at) (drop p.at file) ≡ body_part file d
  lent (Ok p) value h = body_lent file d p.at p.len value h
  lent (Err e) value _ = none_lent file d e value

  pub taken_lent : report (there_or_not answer) ≡ body_report file d
      → IfOk answer (λ p. (p.at ≡ offset_in file (suc d)) × (p.len ≡ body_length_in file (suc d)))
      → (end : ℕ) → end ≡ place.at + place.len → take (end - place.at) (drop place.at file) ≡ body_part file d
  taken_lent value h end upto =
      ap (λ (e : ℕ). take (e - place.at) (drop place.at file)) upto
      ∙ subst (λ (p : BodyPlace). take (p.at + p.len - p.at) (drop p.at file) ≡ body_part file d) (sym is) (lent answer value h)

-- ---- what the proof of `body_place` cites
pub ruleset places = (bad_place, there, there-within)
