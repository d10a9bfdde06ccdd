-- The proofs of specs/Theorems.antt. The bounds of the two lists are those of proofs/ListLengths.antt.
-- Assumes nothing.
use mathlib.Core.Path.{◌≡◌, refl}
use Prim.Native.Nat.{ℕ, zero, suc, ◌+◌, ◌*◌, ◌/◌, ◌%◌, ◌<◌}
use native.Mathlib.Omega.{arith}
use lib.Dec.{eqb, eqb-suc-zero}
use Rattle.std.specs.Prelude.{if◌then◌else◌}
use Rattle.flat.specs.Faults.{unless_refused}
use Rattle.export_bounds.specs.Coded.{value, coded_fault}
use Rattle.export_bounds.specs.Theorems.{CodedDecodes, FaultDecodes, EditionNamed, ReportsFit}
use Rattle.export_bounds.proofs.Values.{card_fits, card-write_fits, encode_fits, verdict_fits, erasures_fits, alike_fits, equations_fits, rebuild_fits}
use Rattle.export_bounds.proofs.RecordValues.{record_write_fits, record_fits, body_fits}
use Rattle.export_bounds.proofs.TrayValues.{tray_fits}
use Rattle.export_bounds.proofs.UpdateValues.{update_fits}
use Rattle.export_bounds.proofs.PartialValues.{partial_fits}
use Rattle.export_bounds.proofs.TurnValues.{turn_fits, turned_fits}
use Rattle.export_bounds.proofs.EditionValues.{up_fits, down_fits}
use Rattle.export_bounds.proofs.WearValues.{least_wear_fits}
use Rattle.export_bounds.proofs.SteppedValues.{stepped_fits}

pub coded_decodes : CodedDecodes
coded_decodes r h = (omega arith, omega arith)

pub fault_decodes : FaultDecodes
unfolding coded_fault unless_refused
fault_decodes r h = go r.number (value r) h
  where
    go : (n v : ℕ) → n < 256
        → ((if eqb n 0 then 0 else n + 256 * v) % 256 ≡ n) × ((if eqb n 0 then 0 else n + 256 * v) / 256 ≡ (if eqb n 0 then 0 else v))
    go zero v l = (refl, refl)
    go (suc n) v l = rw (eqb-suc-zero n) (omega arith, omega arith)

pub edition-named : EditionNamed
edition-named = (refl, refl)

pub reports_fit : ReportsFit
reports_fit = record {
  card_check = card_fits;
  card_writer = card-write_fits;
  up = up_fits;
  down = down_fits;
  encoder = encode_fits;
  verdict = verdict_fits;
  lister = erasures_fits;
  likeness = alike_fits;
  equation_call = equations_fits;
  least_wear_lem = least_wear_fits;
  rebuilder = rebuild_fits;
  record_writer = record_write_fits;
  record_reader = record_fits;
  body_call = body_fits;
  quick_repair = tray_fits;
  update = update_fits;
  partial_rebuild = partial_fits;
  turning = turn_fits;
  turned_rebuild = turned_fits;
  stepped_card = stepped_fits;
}
