-- Demand 1: every buffer at exit is `unless_refused` of the call's report.
-- Assumes nothing.
use lib.ListN.{length}
use Rattle.flat.specs.Faults.{card_report, card_write_report, card_write_buffer, encode_report, encode_stripe, erasures_report, erasures_slice, equations_report, equations_slice, rebuild_report, rebuild_stripe}
use Rattle.record_format.specs.Faults.{record_write_report, record_write_output, record_report, body_report}
use Rattle.peeling.specs.Faults.{tray_report, tray_bytes}
use Rattle.updating.specs.Faults.{update_report, update_stripe}
use Rattle.partial_rebuilding.specs.Faults.{partial_report, partial_stripe}
use Rattle.turning.specs.Faults.{turn_report, turn_buffer, turn_back_buffer, turned_report, turned_stripe}
use Rattle.editions.specs.Converting.{up_report, up_buffer, down_report, down_buffer}
use Rattle.stepped_codes.specs.Faults.{stepped_report, stepped_buffer}
use Rattle.flat.proofs.Reports.{unless_not}
use Rattle.demands.specs.Demand1.{Demand1}

pub demand1 : Demand1
unfolding card_write_buffer encode_stripe erasures_slice equations_slice rebuild_stripe record_write_output tray_bytes update_stripe partial_stripe turn_buffer turn_back_buffer turned_stripe up_buffer down_buffer stepped_buffer
demand1 = record {
  card_writer = λ e C wears buffer. unless_not (card_write_report e C wears (length buffer)) _ buffer;
  up = λ card buffer. unless_not (up_report card (length buffer)) _ buffer;
  down = λ card buffer. unless_not (down_report card (length buffer)) _ buffer;
  encoder = λ card L stripe. unless_not (encode_report card L (length stripe)) _ stripe;
  lister = λ card slice. unless_not (erasures_report card (length slice)) _ slice;
  equations = λ card d slice. unless_not (equations_report card d (length slice)) _ slice;
  rebuilder = λ card L S stripe. unless_not (rebuild_report card L S stripe) _ stripe;
  record_writer = λ card L S stripe output. unless_not (record_write_report card L S (length stripe) (length output)) _ output;
  quick_repair = λ card L budget Ss tray. unless_not (tray_report card L budget Ss tray) _ tray;
  update = λ card L stripe d new. unless_not (update_report card L (length stripe) d (length new)) _ stripe;
  partial_rebuild = λ card L S stripe. unless_not (partial_report card L S stripe) _ stripe;
  turn = λ card L r stripe buffer. unless_not (turn_report card L (length stripe) (length buffer)) _ buffer;
  turn_back = λ card L r stripe buffer. unless_not (turn_report card L (length stripe) (length buffer)) _ buffer;
  turned_rebuild = λ card L r S stripe. unless_not (turned_report card L r S stripe) _ stripe;
  stepped_card = λ d m k buffer. unless_not (stepped_report d m k (length buffer)) _ buffer;
  card_counts = λ card counts. unless_not (card_report card) _ counts;
  card_columns_lem = λ card columns. unless_not (card_report card) _ columns;
  card_wears_lem = λ card wears. unless_not (card_report card) _ wears;
  vector = λ card n vector. unless_not (erasures_report card n) _ vector;
  record_fields = λ file fields. unless_not (record_report file) _ fields;
  record_columns_lem = λ file columns. unless_not (record_report file) _ columns;
  body_place = λ file d place. unless_not (body_report file d) _ place;
  lefts = λ card L budget Ss tray left. unless_not (tray_report card L budget Ss tray) _ left;
}
