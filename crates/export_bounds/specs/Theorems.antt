-- What a caller in C may rely on, in plain words above each statement. The proofs are those of proofs/Theorems.antt.
-- Assumes nothing.
use Rattle.std.specs.Prelude.{◌≡◌, true, false, List, ℕ, ◌-◌, ◌/◌, ◌%◌, ◌^◌, ◌≤◌, ◌<◌, length}
use Rattle.flat.specs.declared.Edition.{Edition}
use Rattle.flat.specs.declared.Edition.TheVariants.{First, Second}
use Rattle.flat.specs.Cards.{Code, Card, disks}
use Rattle.flat.specs.Erasures.{erasures}
use Rattle.flat.specs.Equations.{equations}
use Rattle.flat.specs.Faults.{Report, unless_refused, card_report, card_write_report, encode_report, verdict_report, erasures_report, alike_report, equations_report, rebuild_report}
use Rattle.record_format.specs.Faults.{record_write_report, record_report, body_report}
use Rattle.peeling.specs.Faults.{tray_report}
use Rattle.updating.specs.Faults.{update_report}
use Rattle.partial_rebuilding.specs.Faults.{partial_report}
use Rattle.turning.specs.Faults.{turn_report, turned_report}
use Rattle.wear.specs.Wear.{least_wear_report}
use Rattle.editions.specs.Converting.{up_report, down_report}
use Rattle.stepped_codes.specs.Faults.{stepped_report}
use Rattle.export_bounds.specs.Coded.{value, coded, coded_fault, named, Fits}

-- The one number tells both: its low 8 bits are the report's number, and the rest is the value.
abbrev pub CodedDecodes : Type 0
CodedDecodes = (r : Report) → r.number < 256 → (coded r % 256 ≡ r.number) × (coded r / 256 ≡ value r)

-- So it is where the values of an accepted call go into arrays, and its one number is 0.
abbrev pub FaultDecodes : Type 0
FaultDecodes =
    (r : Report) → r.number < 256 → (coded_fault r % 256 ≡ r.number) × (coded_fault r / 256 ≡ unless_refused r 0 (value r))

-- Every report of every call fits: its number has 8 bits and its value 32, so both fit into 64 together.
pub record ReportsFit : Type 0 where
  pub card_check : (card : Card) → Fits (card_report card)
  pub card_writer : (e : Edition) (C : Code) (wears : List ℕ) (n : ℕ) → Fits (card_write_report e C wears n)
  pub up : (card : List ℕ) (n : ℕ) → Fits (up_report card n)
  pub down : (card : List ℕ) (n : ℕ) → Fits (down_report card n)
  pub encoder : (card : Card) (L n : ℕ) → Fits (encode_report card L n)
  pub verdict : (card : Card) (S : ℕ) → Fits (verdict_report card S)
  pub lister : (card : Card) (n : ℕ) → Fits (erasures_report card n)
  pub likeness : (first second : Card) → Fits (alike_report first second)
  pub equation_call : (card : Card) (d n : ℕ) → Fits (equations_report card d n)
  pub least_wear_lem : (card : Card) (d S : ℕ) → Fits (least_wear_report card d S)
  pub rebuilder : (card : Card) (L S : ℕ) (stripe : List ℕ) → Fits (rebuild_report card L S stripe)
  pub record_writer : (card : List ℕ) (L S n p : ℕ) → Fits (record_write_report card L S n p)
  pub record_reader : (file : List ℕ) → Fits (record_report file)
  pub body_call : (file : List ℕ) (d : ℕ) → Fits (body_report file d)
  pub quick_repair : (card : Card) (L budget : ℕ) (Ss tray : List ℕ) → Fits (tray_report card L budget Ss tray)
  pub update : (card : Card) (L n d p : ℕ) → Fits (update_report card L n d p)
  pub partial_rebuild : (card : Card) (L S : ℕ) (stripe : List ℕ) → Fits (partial_report card L S stripe)
  pub turning : (card : Card) (L n p : ℕ) → Fits (turn_report card L n p)
  pub turned_rebuild : (card : Card) (L r S : ℕ) (stripe : List ℕ) → Fits (turned_report card L r S stripe)
  pub stepped_card : (d m k n : ℕ) → Fits (stepped_report d m k n)

-- A yes names the second edition, and a no the first.
abbrev pub EditionNamed : Type 0
EditionNamed = (named true ≡ Second) × (named false ≡ First)

-- The minimal erasures are fewer than the data words.
abbrev pub ErasuresFew : Type 0
ErasuresFew = (C : Code) → length (erasures C) ≤ 2 ^ C.k - 1

-- The equations of a disk are fewer than the sets of parity disks.
abbrev pub EquationsFew : Type 0
EquationsFew = (C : Code) (d : ℕ) → d < disks C → length (equations C d) ≤ 2 ^ C.m - 1
