-- The reports of the calls on record files fit into one number: what is named is the record's length, or k first.
-- Assumes nothing.
use mathlib.Core.Bool.{not}
use mathlib.Core.List.{List, []}
use Prim.Native.Nat.{ℕ, ◌*◌, ◌≤◌}
use native.Mathlib.Omega.{arith}
use lib.Dec.{eqb, ltb}
use lib.ListN.{length}
use Rattle.std.specs.Prelude.{if◌then◌else◌}
use Rattle.gf2.specs.Sets.{has}
use Rattle.flat.specs.Cards.{Code, code_of, edition_one, disks, set_ok, card_length}
use Rattle.flat.specs.Strips.{length_ok}
use Rattle.flat.specs.Faults.{Report, refused, stripe_tests}
use Rattle.flat.proofs.Lengths.{length_in_lem}
use Rattle.record_format.specs.Records.{entry_count, bodies_at, strips_at, record_length, length_in, entry_count_in, body_in, mark_ok, entries_ok, card_entry_ok, lost_in, strip_entries_ok}
use Rattle.record_format.specs.Faults.{record_write_tests, record_write_report, strips_report, with_record, read_report, record_report, body_tests, body_report}
use Rattle.record_format.proofs.Places.{body_place}
use Rattle.export_bounds.specs.Coded.{Fits}
use Rattle.export_bounds.proofs.Values.{plain, named, pick, test, with_fits}

pub record_write_fits : (card : List ℕ) (L S n p : ℕ) → Fits (record_write_report card L S n p)
unfolding record_write_report record_write_tests stripe_tests record_length strips_at bodies_at entry_count card_length disks
record_write_fits card L S n p =
    let C = code_of (edition_one card) in
    with_fits (edition_one card) (λ C. record_write_tests C L S n p)
    (λ h. test (length_ok L) 6 _ (omega arith)
    (λ e. test (set_ok C S) 8 _ (omega arith)
    (λ _. test (eqb n (disks C * L)) 7 _ (omega arith)
    (λ _. pick (ltb p (record_length C L S)) _ _ (λ _. plain 16 (omega arith))
    (λ _. named 0 (record_length C L S) [] (omega arith) (body_place (strips_at (disks C) (card_length C.m)) L S (disks C) (omega (arith, h.0, h.1)) (length_in_lem L e).1 (omega (arith, h.0, h.1))))))))

-- what the reader answers, and the calls that run it first
with_record_fits : (file : List ℕ) (answer : Code → Report)
    → ((code_of (edition_one (body_in file 0))).k ≤ 16 → Fits (answer (code_of (edition_one (body_in file 0))))) → Fits (with_record file answer)
unfolding with_record strips_report
with_record_fits file answer h =
    let C = code_of (edition_one (body_in file 0)) in
    let n = disks C in
    test (mark_ok file) 13 _ (omega arith)
    (λ _. test (length_ok (length_in file)) 6 _ (omega arith)
    (λ _. test (entries_ok file) 14 _ (omega arith)
    (λ _. test (card_entry_ok file) 14 _ (omega arith)
    (λ _. with_fits (edition_one (body_in file 0)) (λ D. if not (eqb (entry_count_in file) (entry_count (disks D))) then refused 14 [] else strips_report D file (answer D))
    (λ g. test (eqb (entry_count_in file) (entry_count n)) 14 _ (omega arith)
    (λ _. test (strip_entries_ok n (strips_at n (card_length C.m)) (length_in file) (lost_in n file) file) 14 _ (omega arith)
    (λ _. test (eqb (length file) (record_length C (length_in file) (lost_in n file))) 15 _ (omega arith) (λ _. h g.0))))))))

pub record_fits : (file : List ℕ) → Fits (record_report file)
unfolding record_report read_report
record_fits file = with_record_fits file (read_report file) (λ h. named 0 _ _ (omega arith) (omega (arith, h)))

pub body_fits : (file : List ℕ) (d : ℕ) → Fits (body_report file d)
unfolding body_report body_tests
body_fits file d =
    let n = disks (code_of (edition_one (body_in file 0))) in
    with_record_fits file (λ C. body_tests (disks C) (lost_in (disks C) file) d)
    (λ _. test (ltb d n) 9 _ (omega arith)
    (λ _. pick (has (lost_in n file) d) _ _ (λ _. plain 16 (omega arith)) (λ _. plain 0 (omega arith))))
