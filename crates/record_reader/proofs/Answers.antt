-- What the reader answers, by what its tests and the card check found.
-- Assumes nothing.
use mathlib.Core.Path.{◌≡◌, refl, sym, ap, ◌∙◌}
use mathlib.Core.Bool.{Bool, true, false, not}
use mathlib.Core.List.{List, []}
use Prim.Native.Nat.{ℕ, ◌+◌}
use native.Mathlib.Omega.{arith}
use borrow.Author.Tests.{eq-eqb, ne_eqb}
use lib.Dec.{eqb}
use Rattle.std.specs.Prelude.{Ok, Err, if◌then◌else◌}
use Rattle.flat.specs.declared.Edition.TheVariants.{First}
use Rattle.flat.specs.Cards.{Code, code_of, disks, edition_one}
use Rattle.flat.specs.Strips.{length_ok}
use Rattle.flat.specs.Faults.{Report, refused, card_report, with_card}
use Rattle.flat.proofs.Lengths.{length_in_lem}
use Rattle.record_format.specs.Records.{entry_count, length_in, entry_count_in, body_in, mark_ok, entries_ok, card_entry_ok}
use Rattle.record_format.specs.Faults.{strips_report, with_record, read_report, record_report}
use Rattle.card.specs.declared.CardFault.{CardFault}
use Rattle.card.specs.Reports.{fault_report, report as check_report}
use Rattle.card.proofs.Callers.{good_with, bad_card}
use Rattle.record_reader.specs.Passed.{Listed}
use Rattle.record_reader.proofs.Heads.{ten_bytes, length_at, entries_in, entries_at, long}

-- ---- the tests before the card's

module _ (file : List ℕ) where
  pub bad_mark : mark_ok file ≡ false → refused 13 [] ≡ record_report file
  unfolding record_report with_record
  bad_mark e = simp e

  module _ (marked : mark_ok file ≡ true) where
    pub bad_length : length_ok (length_in file) ≡ false → refused 6 [] ≡ record_report file
    unfolding record_report with_record
    bad_length e = simp (marked, e)

    module _ (sized : length_ok (length_in file) ≡ true) where
      pub bad_entries : entries_ok file ≡ false → refused 14 [] ≡ record_report file
      unfolding record_report with_record
      bad_entries e = simp (marked, sized, e)

      module _ (listed : entries_ok file ≡ true) where
        pub bad_card-entry : card_entry_ok file ≡ false → refused 14 [] ≡ record_report file
        unfolding record_report with_record
        bad_card-entry e = simp (marked, sized, listed, e)

-- ---- the tests after it

-- what is answered for the card's code
abbrev answer : List ℕ → Code → Report
answer file C = if not (eqb (entry_count_in file) (entry_count (disks C))) then refused 14 [] else strips_report C file (read_report file C)

module _ (file part : List ℕ) (p : Listed file) (whole : part ≡ body_in file 0) where
  carded : record_report file ≡ with_card (edition_one (body_in file 0)) (answer file)
  unfolding record_report with_record
  carded = simp (p.0, p.1, p.2, p.3)

  -- the card is what the code takes for it
  part_carded : record_report file ≡ with_card (edition_one part) (answer file)
  part_carded = carded ∙ ap (λ (bytes : List ℕ). with_card (edition_one bytes) (answer file)) (sym whole)

  pub bad_body : (f : CardFault) → check_report (Err f) ≡ card_report (edition_one part) → fault_report f ≡ record_report file
  bad_body f e = bad_card First part (answer file) f e ∙ sym part_carded

  module _ (C : Code) (e : check_report (Ok C) ≡ card_report (edition_one part)) (is : C ≡ code_of (edition_one part)) where
    counted : (b : Bool) → eqb (entry_count_in file) (entry_count (disks C)) ≡ b
        → record_report file ≡ (if not b then refused 14 [] else strips_report C file (read_report file C))
    counted b q =
        part_carded ∙ sym (good_with First part (answer file) C (answer file C) e is refl)
        ∙ ap (λ (x : Bool). if not x then refused 14 [] else strips_report C file (read_report file C)) q

    module _ (E n : ℕ) (found : entry_count_in file ≡ E) (many : n ≡ disks C) where
      pub bad_count : (E ≡ n + 1 → ⊥) → refused 14 [] ≡ record_report file
      unfolding entry_count
      bad_count f = sym (counted false (ne_eqb _ _ (λ q. f (omega (arith, found, many, q)))))

      pub good_count : E ≡ n + 1 → strips_report C file (read_report file C) ≡ record_report file
      unfolding entry_count
      good_count q = sym (counted true (eq-eqb _ _ (omega (arith, found, many, q))))

-- ---- what the proofs of the code's tests cite

-- those up to the card's entry
pub ruleset first_tests = (bad_mark, bad_length, bad_entries, bad_card-entry, ten_bytes, length_at)

-- those after it, and the whole
pub ruleset all_tests = (bad_body, bad_count, good_count, entries_in, entries_at, long, length_in_lem)
