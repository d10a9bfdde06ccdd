-- The kinds of entries, as the numbers that stand for them in a record.
-- Assumes nothing.
use Rattle.std.specs.Prelude.{ℕ}
use Rattle.record_contents.specs.declared.Kind.{Kind}
use Rattle.record_contents.specs.declared.Kind.TheVariants.{Card, Strip, LostStrip}

abbrev pub kind_number : Kind → ℕ
kind_number Card = 0
kind_number Strip = 1
kind_number LostStrip = 2
