-- What tells the definitions from their impostors, computed.
-- Assumes nothing.
use mathlib.Core.Path.{refl}
use Rattle.flat.specs.Faults.{card_report, card_wears, card_write_report, card_write_buffer}
use Rattle.editions.specs.Converting.{up_report, up_buffer, down_report, down_buffer}
use Rattle.editions.specs.Impostors.{ReadsInOrder, WritesInOrder, ConvertsInOrder}

pub reads_in_order : ReadsInOrder
unfolding card_report card_wears
reads_in_order =
    record {
      short = refl;
      other_first_byte = refl;
      data_before_length = refl;
      no_wears = refl;
      parity_before_length = refl;
      length_before_column = refl;
      greatest_wear = refl;
      first_parity_before_length = refl;
      column_before_wear = refl;
      zero_wear = refl;
      wears_in_order = refl;
      ones = refl;
      named_wrong = refl;
    }

pub writes_in_order : WritesInOrder
unfolding card_write_report card_write_buffer
writes_in_order = record { wears_for_first = refl; too_few_wears = refl; column_before_wear = refl; wear_before_buffer = refl; any_for_first = refl; too_many_wears = refl; greatest_wear = refl; written = refl }

pub converts_in_order : ConvertsInOrder
unfolding up_report up_buffer down_report down_buffer
converts_in_order = record { up = refl; down = refl; up_buffer_lem = refl; lossy_last = refl; lossy = refl }
