-- What is answered of the strips' entries and the file's length, by what the tests found.
-- Assumes nothing.
use mathlib.Core.Path.{◌≡◌, refl, sym, ap, ◌∙◌}
use mathlib.Core.Bool.{Bool, true, false, not}
use mathlib.Core.List.{List, [], ◌∷◌}
use Prim.Native.Nat.{ℕ}
use lib.Dec.{eqb}
use lib.ListN.{length}
use Rattle.std.specs.Prelude.{if◌then◌else◌}
use Rattle.flat.specs.Cards.{Code, disks, card_length}
use Rattle.flat.specs.Faults.{Report, accepted, refused}
use Rattle.record_format.specs.Records.{strips_at, body_at, record_length, length_in, lost_in, strip_entries_ok}
use Rattle.record_format.specs.Faults.{strips_report, read_report}

module _ (file : List ℕ) (C : Code) (n m start L S : ℕ) (len : L ≡ length_in file) (many : n ≡ disks C) (parity : m ≡ C.m)
    (at : start ≡ strips_at n (card_length m)) (lost : S ≡ lost_in n file) where
  abbrev report : Report
  report = strips_report C file (read_report file C)

  strips_tests : (a b : Bool) → a ≡ strip_entries_ok n start L S file → eqb (length file) (body_at start L S n) ≡ b
      → report ≡ (if not a then refused 14 [] else if not b then refused 15 [] else accepted (C.k ∷ C.m ∷ L ∷ S ∷ []))
  unfolding strips_report read_report record_length
  strips_tests a b p q = rw (p, sym q, lost, at, parity, len, many)

  module _ (t : ℕ) (end : t ≡ body_at start L S n) where
    pub other_entry : false ≡ strip_entries_ok n start L S file → refused 14 [] ≡ report
    other_entry p = sym (strips_tests false _ p refl)

    module _ (p : true ≡ strip_entries_ok n start L S file) where
      pub other_end : eqb (length file) t ≡ false → refused 15 [] ≡ report
      other_end q = sym (strips_tests true false p (ap (eqb (length file)) (sym end) ∙ q))

      pub good_end : eqb (length file) t ≡ true → accepted (C.k ∷ C.m ∷ L ∷ S ∷ []) ≡ report
      good_end q = sym (strips_tests true true p (ap (eqb (length file)) (sym end) ∙ q))

-- what the proof of the code's last tests cites
pub ruleset last_tests = (other_entry, other_end, good_end)
