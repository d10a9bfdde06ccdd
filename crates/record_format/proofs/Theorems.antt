-- The theorems about the record file (demand 2): the reader reads what the writer wrote, an accepted file is what the writer writes
-- from what the reader answers, and an empty body is a refused one.
-- Assumes nothing.
use mathlib.Core.Path.{◌≡◌, refl, sym, ap, ◌∙◌, subst}
use mathlib.Core.Logic.{◌≢◌}
use mathlib.Core.List.{[], ◌∷◌, ◌++◌}
use Prim.Native.Nat.{ℕ, zero, suc}
use native.Mathlib.Omega.{arith}
use lib.Dec.{eqb, eqb-suc-zero}
use lib.ListN.{length, take, drop}
use lib.Seq.{take_at}
use Rattle.std.specs.Prelude.{if◌then◌else◌}
use Rattle.flat.specs.Cards.{disks, code_of, edition_one}
use Rattle.record_format.specs.Records.{record_length, record_bytes, body_in}
use Rattle.flat.specs.Faults.{Report, refused, unless_refused}
use Rattle.record_format.specs.Faults.{record_write_output, read_report, record_report, body_report, body_part}
use Rattle.record_format.specs.Theorems.{RecordReadsBack, RecordWritesBack, BodyEmptyRefused, RecordByBytes, RecordDamaged}
use Rattle.flat.proofs.Reports.{unless_accepted}
use Rattle.record_format.proofs.Received.{read-accepted}
use Rattle.record_format.proofs.Written.{recordable, record_length_lem, Read, record_read}
use Rattle.record_format.proofs.Rewritten.{rewritten}
use Rattle.record_format.proofs.Bodies.{body_refused, body-filled}

pub records_read-back : RecordReadsBack
unfolding record_write_output
records_read-back card stripe output L S len e =
    let C = code_of (edition_one card) in
    let file = record_bytes card (disks C) L S stripe in
    let w = recordable card L S (length stripe) (length output) len e in
    let long : length file ≡ len = record_length_lem card stripe L S _ _ w.0 w.1 refl ∙ w.2 in
    let is : take len (record_write_output card L S stripe output) ≡ file =
    ap (take len) (unless_accepted _ (len ∷ []) (file ++ drop (record_length C L S) output) output e)
    ∙ take_at file (drop (record_length C L S) output) len long in
    subst (Read card stripe L S) (sym is) (record_read card stripe L S _ _ w.0 w.1 refl)

pub records_write-back : RecordWritesBack
records_write-back file output k m L S b e n = rewritten file k m L S b e output n

pub body_empty_refused : BodyEmptyRefused
unfolding body_part unless_refused read_report
body_empty_refused file d = (λ n z. filled n z (record_report file).number refl, λ f. empty f (body_report file d).number refl)
  where
    filled : body_part file d ≡ [] → (body_report file d).number ≡ 0 → (i : ℕ) → (record_report file).number ≡ i → ⊥
    filled n z zero q = body-filled file _ _ _ _ (read-accepted file q) d z n
    filled n z (suc i) q =
        let is : record_report file ≡ refused (suc i) (record_report file).values = ap (λ (x : ℕ). refused x (record_report file).values) q in
        let w : suc i ≡ 0 = sym (ap (λ (r : Report). r.number) (body_refused file i (record_report file).values is d)) ∙ z in
        omega arith

    empty : (body_report file d).number ≢ 0 → (i : ℕ) → (body_report file d).number ≡ i → (if eqb i 0 then body_in file (suc d) else []) ≡ []
    empty f zero q = absurd (f q)
    empty f (suc i) q = rw eqb-suc-zero

pub record_by-bytes : RecordByBytes
unfolding record_bytes
record_by-bytes = refl

pub record_damaged : RecordDamaged
unfolding record_report
record_damaged = (refl, refl, refl, refl, refl)
