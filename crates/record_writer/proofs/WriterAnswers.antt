-- What the writer's tests answer at each way out, and what the writer leaves in the output where it refuses and where it writes.
-- Assumes nothing.
use mathlib.Core.Path.{◌≡◌, refl, sym, ap, ap₂, ◌∙◌}
use mathlib.Core.Bool.{Bool, true, false}
use mathlib.Core.Logic.{◌≢◌}
use mathlib.Core.List.{List, [], ◌∷◌, ◌++◌}
use Prim.Native.Nat.{ℕ, ◌+◌, ◌*◌, ◌^◌, ◌≤◌, ◌<◌}
use native.Mathlib.Omega.{arith}
use borrow.Author.Tests.{lt-ltb, le-ltb, eqb-true}
use lib.Dec.{eqb, ltb}
use lib.ListN.{length, drop}
use Rattle.std.specs.Prelude.{Ok, Err}
use Rattle.flat.specs.Lists.{put}
use Rattle.flat.specs.declared.Edition.TheVariants.{First}
use Rattle.flat.specs.Cards.{Code, code_of, disks, set_ok, card_length, edition_one}
use Rattle.flat.specs.Strips.{length_ok}
use Rattle.flat.specs.Faults.{Report, accepted, refused, card_report}
use Rattle.flat.proofs.Lengths.{length_in_lem, stripe-small}
use Rattle.flat.proofs.Reports.{unless_zero, unless_other}
use Rattle.flat.proofs.Tested.{Passed, passed_length, tests_length, tests_set, tests_size, tests_past}
use Rattle.record_format.specs.Records.{strips_at, body_at, record_length, record_bytes}
use Rattle.record_format.specs.Faults.{record_write_tests, record_write_report, record_write_output}
use Rattle.record_format.proofs.Parts.{length_record}
use Rattle.record_format.proofs.Written.{Recordable, record_passed}
use Rattle.card.specs.declared.CardFault.{CardFault}
use Rattle.card.specs.Reports.{fault_report, report as check_report}
use Rattle.card.proofs.Callers.{GoodCard, good, good_with, bad_card, one-length}

-- ---- the tests at each way out, for a code of N disks

module _ (C : Code) (L S n p : ℕ) where
  pub written-length : length_ok L ≡ false → refused 6 [] ≡ record_write_tests C L S n p
  unfolding record_write_tests
  written-length e = tests_length C L S n _ e

  module _ (el : length_ok L ≡ true) (N : ℕ) (is : N ≡ disks C) where
    set : {b : Bool} → ltb S (2 ^ N) ≡ b → set_ok C S ≡ b
    unfolding set_ok
    set e = ap (λ (x : ℕ). ltb S (2 ^ x)) (sym is) ∙ e

    pub written-set : ltb S (2 ^ N) ≡ false → refused 8 [] ≡ record_write_tests C L S n p
    unfolding record_write_tests
    written-set e = tests_set C L S n _ el (set e)

    module _ (es : ltb S (2 ^ N) ≡ true) where
      pub written-stripe : n ≢ N * L → refused 7 [] ≡ record_write_tests C L S n p
      unfolding record_write_tests
      written-stripe f = tests_size C L S n _ el (set es) (λ q. f (q ∙ ap (λ (x : ℕ). x * L) (sym is)))

      module _ (en : n ≡ N * L) (m start len : ℕ) (em : m ≡ C.m) (at : start ≡ strips_at N (card_length m)) (end : len ≡ body_at start L S N) where
        long : len ≡ record_length C L S
        unfolding record_length
        long = end ∙ ap₂ (λ (x y : ℕ). body_at x L S y) (at ∙ ap₂ (λ (x y : ℕ). strips_at x (card_length y)) is em) is

        past : Passed C L S n
        past = record { length_ok_lem = el; set_ok_lem = set es; size = en ∙ ap (λ (x : ℕ). x * L) is }

        pub written-short : p < len → refused 16 [] ≡ record_write_tests C L S n p
        unfolding record_write_tests
        written-short h = sym (tests_past C L S n _ past ∙ simp (sym long, lt-ltb p len h))

        pub written_good : len ≤ p → accepted (len ∷ []) ≡ record_write_tests C L S n p
        unfolding record_write_tests
        written_good h = sym (tests_past C L S n _ past ∙ simp (sym long, le-ltb p len h))

-- ---- what is refused

module _ (card : List ℕ) (L S : ℕ) (stripe out : List ℕ) where
  abbrev pub asked : Report
  asked = record_write_report card L S (length stripe) (length out)

  pub bad_report : (f : CardFault) → check_report (Err f) ≡ card_report (edition_one card) → fault_report f ≡ asked
  unfolding record_write_report
  bad_report f e = bad_card First card (λ C. record_write_tests C L S (length stripe) (length out)) f e

  -- the output stays as it was
  pub output-kept : (r : Report) → r ≡ asked → eqb r.number 0 ≡ false → out ≡ record_write_output card L S stripe out
  unfolding record_write_output
  output-kept r e other = unless_other asked _ out (ap (λ (x : Report). eqb x.number 0) (sym e) ∙ other)

  -- ---- for a good card

  module _ (C : Code) (e : check_report (Ok C) ≡ card_report (edition_one card)) (is : C ≡ code_of (edition_one card)) where
    pub good_report : asked ≡ record_write_tests C L S (length stripe) (length out)
    unfolding record_write_report
    good_report =
        sym (good_with First card (λ D. record_write_tests D L S (length stripe) (length out)) C (record_write_tests C L S (length stripe) (length out)) e is refl)

    g : GoodCard (edition_one card) C
    g = good First card C e is

    -- the tests accept
    module _ (r : Report) (found : r ≡ record_write_tests C L S (length stripe) (length out)) (zero : eqb r.number 0 ≡ true) where
      w : Recordable C L S (length stripe) (length out)
      w = record_passed C L S (length stripe) (length out) (ap (λ (x : Report). x.number) (sym found) ∙ eqb-true r.number 0 zero)

      module _ (N : ℕ) (many : N ≡ disks C) where
        -- the place of the end that the code asks room for is T
        room-asked : body_at (strips_at N (length card)) L S N ≡ record_length C L S
        unfolding record_length card_length
        room-asked = ap₂ (λ (x y : ℕ). body_at (strips_at x y) L S x) many (one-length card C g)

        size : length stripe ≡ N * L
        size = w.passed.size ∙ ap (λ (x : ℕ). x * L) (sym many)

        pub record_fits : (N ≤ 32) × (L ≤ 65536) × (length card ≤ 34) × (N * L ≤ length stripe) × (body_at (strips_at N (length card)) L S N ≤ length out)
        unfolding disks
        record_fits =
            let c = g.columns in
            (omega (arith, many), (passed_length w.passed).1, omega (arith, one-length card C g), omega (arith, size), omega (arith, room-asked, w.room))

        -- the record at the output's front
        pub output_written : put out 0 (record_bytes card N L S stripe) ≡ record_write_output card L S stripe out
        unfolding put record_write_output
        output_written =
            let end : 0 + length (record_bytes card N L S stripe) ≡ record_length C L S =
            omega (arith, length_record card N L S stripe (omega (arith, size)), room-asked) in
            ap₂ (λ (x y : ℕ). record_bytes card x L S stripe ++ drop y out) many end
            ∙ ap (λ (D : Code). record_bytes card (disks D) L S stripe ++ drop (record_length D L S) out) is
            ∙ unless_zero asked _ out (ap (λ (x : Report). eqb x.number 0) (good_report ∙ sym found) ∙ zero)

-- ---- what the proofs of the code cite

-- the tests of a length, a lost set, a stripe and an output
pub ruleset length_tests = (written-length, written-set, written-stripe, written-short, written_good, length_in_lem, stripe-small)

-- the writer's report
pub ruleset reports = (bad_report, good_report)
